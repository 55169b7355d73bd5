use Rattle.std.proofs.Common.{◌≡◌, false, length, get_or, take, subst, ℕ, refl, arith, rules}
use Rattle.std.proofs.lemmas.List.{length-take}
use Rattle.sum_networks.specs.Steps.{Kept}
use Rattle.sum_networks.proofs.Cutting.{none_yet, one_more, joined, no_bit}
use Rattle.sums.proofs.revising.clear.Goals as goal

pub loop-i-init : goal.loop-i-init
loop-i-init c = none_yet _ _

pub loop-i-preserved : goal.loop-i-preserved
loop-i-preserved c =
    let n = c.args.node.now.words in
    let m = c.loop-i.word-items in
    let i = c.loop-i.i in
    one_more (λ _ _. false) (take c.args.width n) m _ i c.loop-i.changed 0 c.change-changed.result refl (omega (arith, c.loop-i-test.true, c.loop-i.auto.word-items)) c.loop-i.invariant
    (λ v. no_bit (get_or m i 0) v) (c.change-changed.ensures.one (omega (arith, c.loop-i-test.true, c.requires, length-take c.args.width n)))

pub returns : goal.returns
returns c =
    let w = c.args.width in
    let n = c.args.node.now.words in
    let long : length n ≡ 32 = search rules in
    let P : ℕ → Type 0 = (λ k. Kept (λ _ _. false) (take w n) c.loop-i.word-items k c.loop-i.changed) in
    joined _ n _ w _ (omega (arith, c.requires, long)) (subst P (omega (arith, c.loop-i-test.false, c.loop-i.auto.i-end, length-take w n, c.requires, long)) c.loop-i.invariant)
