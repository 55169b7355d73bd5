use Rattle.std.proofs.Common.{◌≡◌, ◌++◌, take, drop}
use Rattle.trails.specs.Entries.{before}
use Rattle.trails.specs.Segments.{segments}
use Rattle.trailing.proofs.changes.Changes.note_changes.Given as goal

abbrev pub invariant-loop-i : goal.invariant-loop-i
invariant-loop-i l =
    (before (segments l.self.trail) (take l.i (take l.width l.new.words) ++ drop l.i (take l.width l.initial.self.seen.words))
    ≡ before (segments l.initial.self.trail) (take l.width l.initial.self.seen.words))
    × (l.self.seen ≡ l.initial.self.seen)
    × (l.self.capacity ≡ l.initial.self.capacity)
