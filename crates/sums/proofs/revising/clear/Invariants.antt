use Rattle.std.proofs.Common.{false}
use Rattle.sum_networks.specs.Steps.{Kept}
use Rattle.sums.proofs.revising.clear.Given as goal

abbrev pub invariant-loop-i : goal.invariant-loop-i
invariant-loop-i l = Kept (λ _ _. false) l.initial.word-items l.word-items l.i l.changed
