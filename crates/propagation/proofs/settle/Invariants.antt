use Rattle.propagation.specs.Closing.{total}
use Rattle.propagation.proofs.Sweeps.{Sweep, Reached}
use Rattle.propagation.proofs.settle.Given as goal

abbrev pub invariant-sweeps : goal.invariant-sweeps
invariant-sweeps g l = Reached (g.P.Constraints.network l.problem) l.initial.node.words l.node.words l.fn.moved l.moved

abbrev pub decreases-sweeps : goal.decreases-sweeps
decreases-sweeps g l = total l.node.words

abbrev pub invariant-each : goal.invariant-each
invariant-each g l = Sweep (g.P.Constraints.network l.problem) l.initial.node.words l.node.words l.moved l.changed l.k
