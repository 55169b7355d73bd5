use Rattle.std.proofs.Common.{ℕ, Some, None, sym, ap, ◌∙◌, arith, w64}
use Rattle.std.proofs.lemmas.Int.{to_z-of_z}
use Rattle.std.proofs.lemmas.Bool.{cond-true, cond-false}
use Rattle.nodes.specs.Choosing.{empty_below}
use Rattle.nodes.proofs.Emptiness.{none_filled}
use Rattle.sums.proofs.problem.calls.SumsProblem.bound.Goals as goal

pub cheapest-requires : goal.cheapest-requires
cheapest-requires c i l z = none_filled c.width.result c.args.node.now.words (sym c.if-has_empty.ensures) i (omega (arith, l, c.width.ensures.value)) z

pub returns-then-has_empty : goal.returns-then-has_empty
returns-then-has_empty c =
    sym (cond-true (empty_below _ c.args.node.now.words) None _ (ap (λ (k : ℕ). empty_below k c.args.node.now.words) (sym c.width.ensures.value) ∙ sym c.if-has_empty.ensures))

pub returns-else-has_empty : goal.returns-else-has_empty
returns-else-has_empty c =
    ap Some (to_z-of_z w64 c.cheapest.result (record { sfits = c.cheapest.type_inv }) ∙ c.cheapest.ensures)
    ∙ sym (cond-false (empty_below _ c.args.node.now.words) None _ (ap (λ (k : ℕ). empty_below k c.args.node.now.words) (sym c.width.ensures.value) ∙ sym c.if-has_empty.ensures))
