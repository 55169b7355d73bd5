use Rattle.std.proofs.Common.{◌≡◌, ◌+◌, Option, Some, None, Err, rules, tests, ap, sym, ◌∙◌, ◌==◌, append-nil}
use Rattle.std.specs.Option.{ok_or}
use Rattle.std.specs.Result.{result_ok}
use Rattle.std.proofs.lemmas.List.{length_push}
use Rattle.std.proofs.lemmas.Iterator.Consumers.{YieldsList-at, YieldsList-from_enumerate}
use Rattle.std.proofs.lemmas.Iterator.Splits.{YieldsList-from_slice_split}
use Rattle.std.proofs.lemmas.Result.{err_from_is_err_and}
use Rattle.scripts.specs.declared.script.ScriptError.TheVariants.{Line}
use Rattle.scripts.specs.Lines.{reading_of}
use Rattle.scripts.proofs.Scripted.{numbered, all_numbered, read_none, read_more, read_all, refused}
use Rattle.scripts.proofs.script.read_script.Goals as goal

not_ok : {A E : Type 0} (o : Option A) (e f : E) → ok_or o e ≡ Err f → f ≡ e
not_ok None e f k = cc
not_ok (Some x) e f k = cc

pub loop-before-init : goal.loop-before-init
loop-before-init c = read_none _ _ c.new-calls.ensures.items

pub returns-in_err-call : goal.returns-in_err-call
returns-in_err-call c =
    let l = numbered _ c.loop-before.yielded _ c.loop-before.yielded_by _ _ _ _ c.in-Some.is c.next.ensures.steps
    (YieldsList-at c.into_iter-before-iterator.ensures.into_iter_gives (YieldsList-from_enumerate
    (YieldsList-at c.enumerate-before-items.ensures.source (YieldsList-from_slice_split _ (λ b. b == 10) c.args.text.now c.split.ensures.rest c.split.ensures.done c.split.ensures.closure (λ x r q k. search (rules, tests))))
    c.enumerate-before-items.ensures.count)) in
    let p = err_from_is_err_and c.from_residual.result c.from_residual.ensures.1 in
    let n : reading_of c.in-Some.line.now ≡ None = cc (ap result_ok c.in_err-call.was) in
    let e : c.in_err-call.field-0.0 ≡ Line (c.in-Some.before + 1) = not_ok _ _ _ (sym c.ok_or.ensures.value ∙ c.in_err-call.was) in
    rw (p.1, p.2) (refused c.loop-before.invariant _ l.0 l.2 _ _ l.1 e n)

pub loop-before-preserved-in-Continue-branch-3 : goal.loop-before-preserved-in-Continue-branch-3
loop-before-preserved-in-Continue-branch-3 c =
    let l = numbered _ c.loop-before.yielded _ c.loop-before.yielded_by _ _ _ _ c.in-Some.is c.next.ensures.steps
    (YieldsList-at c.into_iter-before-iterator.ensures.into_iter_gives (YieldsList-from_enumerate
    (YieldsList-at c.enumerate-before-items.ensures.source (YieldsList-from_slice_split _ (λ b. b == 10) c.args.text.now c.split.ensures.rest c.split.ensures.done c.split.ensures.closure (λ x r q k. search (rules, tests))))
    c.enumerate-before-items.ensures.count)) in
    let r : reading_of c.in-Some.line.now ≡ Some (Some c.in-Some-2.call) = cc (ap result_ok c.in_ok-call.was) in
    read_more c.loop-before.invariant _ l.0 l.2 _ _ _ (length_push c.loop-before.yielded _) r c.in_ok-push.ensures.items

pub loop-before-preserved : goal.loop-before-preserved
loop-before-preserved c =
    let l = numbered _ c.loop-before.yielded _ c.loop-before.yielded_by _ _ _ _ c.in-Some.is c.next.ensures.steps
    (YieldsList-at c.into_iter-before-iterator.ensures.into_iter_gives (YieldsList-from_enumerate
    (YieldsList-at c.enumerate-before-items.ensures.source (YieldsList-from_slice_split _ (λ b. b == 10) c.args.text.now c.split.ensures.rest c.split.ensures.done c.split.ensures.closure (λ x r q k. search (rules, tests))))
    c.enumerate-before-items.ensures.count)) in
    let r : reading_of c.in-Some.line.now ≡ Some None = cc (ap result_ok c.in_ok-call.was) in
    read_more c.loop-before.invariant _ l.0 l.2 _ _ _ (length_push c.loop-before.yielded _) r (sym (append-nil _))

pub returns : goal.returns
returns c =
    read_all c.loop-before.invariant (all_numbered _ c.loop-before.yielded _ c.loop-before.yielded_by _ _ c.in-None.is c.next.ensures.steps
    (YieldsList-at c.into_iter-before-iterator.ensures.into_iter_gives (YieldsList-from_enumerate
    (YieldsList-at c.enumerate-before-items.ensures.source (YieldsList-from_slice_split _ (λ b. b == 10) c.args.text.now c.split.ensures.rest c.split.ensures.done c.split.ensures.closure (λ x r q k. search (rules, tests))))
    c.enumerate-before-items.ensures.count)))
