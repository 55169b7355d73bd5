use Rattle.std.proofs.Common.{rules, tests, Some, sym, ap, ◌∙◌, ◌==◌, ◌∷◌}
use Rattle.std.proofs.lemmas.List.{length_push}
use Rattle.std.proofs.lemmas.Iterator.Splits.{YieldsList-from_slice_split}
use Rattle.scripts.specs.Stacks.{ends, stack_under}
use Rattle.scripts.proofs.Stacked.{no_part, no_layer, layered, grounded, bare_below}
use Rattle.scripts.proofs.Taken.{left, none, item, one, drop_next}
use Rattle.scripts.proofs.stack.read_stack.Goals as goal
use Rattle.scripts.proofs.stack.read_stack.Goals.{in-None-default, in-Some-None+then-eq, in-Some-None+else-eq, in_default-2}

pub returns-in_err-gap : goal.returns-in_err-gap
returns-in_err-gap c =
    let p = item _ _ _ c.in-Some.is c.next.ensures.steps
    (left c.loop-part.yielded _ c.loop-part.yielded_by
    (YieldsList-from_slice_split _ (λ b. b == 47) c.args.text.now c.split-parts.ensures.rest c.split-parts.ensures.done c.split-parts.ensures.closure (λ x r q k. search (rules, tests)))) in
    c.from_residual.ensures ∙ no_part _ _ _ _ _ c.loop-part.invariant p.1 (sym c.read_part.ensures ∙ c.in_err-gap.was)

pub returns-in_err-above-in-Layer : goal.returns-in_err-above-in-Layer
returns-in_err-above-in-Layer c =
    let p = item _ _ _ c.in-Some.is c.next.ensures.steps
    (left c.loop-part.yielded _ c.loop-part.yielded_by
    (YieldsList-from_slice_split _ (λ b. b == 47) c.args.text.now c.split-parts.ensures.rest c.split-parts.ensures.done c.split-parts.ensures.closure (λ x r q k. search (rules, tests)))) in
    c.from_residual-in_err-above-in-Layer.ensures
    ∙ no_layer _ _ _ _ _ c.loop-part.invariant p.1 _ (sym c.read_part.ensures ∙ (c.in_ok-gap.was ∙ ap Some c.in-Layer.is)) (sym c.with_layer.ensures ∙ c.in_err-above-in-Layer.was)

pub loop-part-preserved : goal.loop-part-preserved
loop-part-preserved c =
    let p = item _ _ _ c.in-Some.is c.next.ensures.steps
    (left c.loop-part.yielded _ c.loop-part.yielded_by
    (YieldsList-from_slice_split _ (λ b. b == 47) c.args.text.now c.split-parts.ensures.rest c.split-parts.ensures.done c.split-parts.ensures.closure (λ x r q k. search (rules, tests)))) in
    ap (stack_under c.in_ok-above-in-Layer.above) (drop_next _ _ _ _ _ (length_push c.loop-part.yielded _) p.1)
    ∙ layered _ _ _ _ _ c.loop-part.invariant p.1 _ _ (sym c.read_part.ensures ∙ (c.in_ok-gap.was ∙ ap Some c.in-Layer.is)) (sym c.with_layer.ensures ∙ c.in_ok-above-in-Layer.was)

pub returns-in-Ground : goal.returns-in-Ground
returns-in-Ground c =
    let p = item _ _ _ c.in-Some.is c.next.ensures.steps
    (left c.loop-part.yielded _ c.loop-part.yielded_by
    (YieldsList-from_slice_split _ (λ b. b == 47) c.args.text.now c.split-parts.ensures.rest c.split-parts.ensures.done c.split-parts.ensures.closure (λ x r q k. search (rules, tests)))) in
    c.then_some.ensures
    ∙ grounded _ _ _ _ _ c.loop-part.invariant p.1 _ _ (sym c.read_part.ensures ∙ (c.in_ok-gap.was ∙ ap Some c.in-Ground.is))
    (elim c.match-next-2.branch [
      | in-None-default w ↦ w.ends-is ∙ sym (ap (ends c.in-Ground.base) (none _ _ w.in-None-default.is-0 c.next-in-Ground.ensures.steps p.2))
      | in-Some-None+then-eq w ↦
          let e = one _ _ _ w.in-Some-None.is-0 c.next-in-Ground.ensures.steps _ _ w.in-Some-None.is-1 c.next-in-Ground-2.ensures.steps p.2 in
          rw (e, w.ends-is) (search rules)
      | in-Some-None+else-eq w ↦
          let e = one _ _ _ w.in-Some-None.is-0 c.next-in-Ground.ensures.steps _ _ w.in-Some-None.is-1 c.next-in-Ground-2.ensures.steps p.2 in
          rw (e, w.ends-is) (search rules)
      | in_default-2 w ↦
          let a = item _ _ _ w.in_default-2.is-0 c.next-in-Ground.ensures.steps p.2 in
          let b = item _ _ _ w.in_default-2.is-1 c.next-in-Ground-2.ensures.steps a.2 in
          w.ends-is ∙ sym (ap (ends c.in-Ground.base) (a.1 ∙ ap (λ l. w.in_default-2.field-0-0.now ∷ l) b.1))
    ])

pub returns : goal.returns
returns c =
    bare_below _ _ _ (none _ _ c.in_default.is c.next.ensures.steps
    (left c.loop-part.yielded _ c.loop-part.yielded_by
    (YieldsList-from_slice_split _ (λ b. b == 47) c.args.text.now c.split-parts.ensures.rest c.split-parts.ensures.done c.split-parts.ensures.closure (λ x r q k. search (rules, tests))))) c.loop-part.invariant
