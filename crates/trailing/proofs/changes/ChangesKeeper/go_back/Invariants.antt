use Rattle.std.proofs.Common.{◌≡◌, take}
use Rattle.space.specs.Meaning.{words_now}
use Rattle.trails.specs.Segments.{segments}
use Rattle.trailing.specs.Trailed.{PutBack}
use Rattle.trailing.proofs.Moves.{waiting}
use Rattle.trailing.proofs.changes.ChangesKeeper.go_back.Given as goal

abbrev pub invariant-loop-entry : goal.invariant-loop-entry
invariant-loop-entry g l =
    (take (g.S.Space.meaning l.initial.below).width l.initial.self.seen.words ≡ words_now (g.S.Space.meaning l.initial.below)
    → PutBack (g.S.Space.meaning l.initial.below) (g.S.Space.meaning l.below) (segments l.initial.self.trail) (segments l.self.trail) l.self.seen.words)
    × (l.self.capacity ≡ l.initial.self.capacity)

abbrev pub decreases-loop-entry : goal.decreases-loop-entry
decreases-loop-entry g l = waiting (segments l.self.trail)
