use Rattle.recomputing.proofs.Pruning.{forgets}
use Rattle.recomputing.proofs.route.RouteKeeper.forget.Goals as goal

pub returns : goal.returns
returns g c x older a h =
    forgets (g.S.Space.meaning c.args.below.now) (g.S.Space.meaning c.prune.new.below) c.args.self.now.trace c.release.new.self c.prune.new.self.trace x older a h c.release.ensures c.prune.ensures
