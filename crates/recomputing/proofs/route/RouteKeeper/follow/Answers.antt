use Rattle.recomputing.proofs.Stepping.{follows}
use Rattle.recomputing.proofs.route.RouteKeeper.follow.Goals as goal

pub returns : goal.returns
returns g c m w a s = follows m (g.S.Space.meaning c.args.below.now) c.args.self.now.trace c.step.new.self c.args.alternative w a s c.step.ensures
