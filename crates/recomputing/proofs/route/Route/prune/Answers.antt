use Rattle.recomputing.proofs.Pruning.{pruned_once, pruned_out}
use Rattle.recomputing.proofs.route.Route.prune.Goals as goal

pub loop-below-preserved : goal.loop-below-preserved
loop-below-preserved g c w =
    pruned_once (g.S.Space.meaning c.args.below.now) (g.S.Space.meaning c.loop-below.below) (g.S.Space.meaning c.forget.new.self) c.args.self.now.trace c.loop-below.self.trace c.uncheck.new.self (c.loop-below.invariant w) c.loop-below-test.ensures c.forget.ensures.1 c.uncheck.ensures

pub returns : goal.returns
returns g c w =
    pruned_out (g.S.Space.meaning c.args.below.now) (g.S.Space.meaning c.loop-below.below) c.args.self.now.trace c.loop-below.self.trace (c.loop-below.invariant w) c.loop-below-test.ensures
