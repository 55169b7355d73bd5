use Rattle.std.proofs.Common.{◌≡◌, ℕ, ◌+◌, ◌≤◌, get_or, reverse}
use Rattle.trails.specs.Entries.{noted_all, none, back, top}
use Rattle.trails.specs.Segments.{segments}
use Rattle.trails.proofs.table.Trail.forget.Given as goal

abbrev pub invariant-loop-i : goal.invariant-loop-i
invariant-loop-i l =
    (top (reverse l.self.marks.items) ≤ l.mark.start + l.i)
    × ((j : ℕ) → l.mark.start + l.i ≤ j → get_or l.self.entries j none ≡ get_or l.initial.self.entries j none)
    × (segments l.self ≡ noted_all (segments l.initial.self) (back l.initial.self.entries l.mark.start l.i))
