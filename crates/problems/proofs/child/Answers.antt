use Rattle.propagation.proofs.Closures.{closure_supported}
use Rattle.problems.proofs.child.Goals as goal

pub returns-clause-settled : goal.returns-clause-settled
returns-clause-settled g c = closure_supported (g.P.Constraints.network c.args.problem.now) _ _ c.close.ensures.largest
