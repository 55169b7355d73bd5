use Rattle.std.proofs.Common.{MatchOption}
use Rattle.nodes.proofs.Chosen.{NoneBelow, BestBelow}
use Rattle.nodes.proofs.node.Node.status.Given as goal

abbrev pub invariant-loop-x : goal.invariant-loop-x
invariant-loop-x l = MatchOption l.fewest (NoneBelow l.words l.x) (λ p. BestBelow l.words l.x p.0 p.1 p.2)
