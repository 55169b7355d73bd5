use Rattle.std.proofs.Common.{sym, ◌∙◌}
use Rattle.recomputing.specs.Follow.{length_nodes}
use Rattle.recomputing.proofs.route.RouteKeeper.count.Goals as goal

pub returns : goal.returns
returns g c m a = c.held.ensures.0 ∙ sym (length_nodes m.tree c.args.self.now.trace.path c.args.self.now.trace.depths)
