use Rattle.recomputing.proofs.Turning.{returns as returns_to}
use Rattle.recomputing.proofs.route.RouteKeeper.go_back.Goals as goal

pub returns : goal.returns
returns g c x older a h =
    returns_to (g.S.Space.meaning c.args.below.now) (g.S.Space.meaning c.to_checkpoint.new.below) (g.S.Space.meaning c.redo_path.new.below) c.args.self.now.trace c.cut.new.self c.deepest-from.result c.newest-depth.result x older a h c.to_checkpoint.ensures c.redo_path.ensures c.deepest-from.ensures.value c.newest-depth.ensures c.cut.ensures
