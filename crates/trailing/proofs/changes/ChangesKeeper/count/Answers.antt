use Rattle.std.proofs.Common.{sym, ◌∙◌}
use Rattle.space.specs.Meaning.{words_now}
use Rattle.trails.specs.Segments.{segments}
use Rattle.trailing.specs.Holding.{held_count}
use Rattle.trailing.proofs.changes.ChangesKeeper.count.Goals as goal

pub returns : goal.returns
returns g c m a = c.count.ensures ∙ sym (held_count g.S.Space.named (segments c.args.self.now.trail) (words_now m))
