use Rattle.std.specs.Prelude.{ℕ, cond, List, [], ◌∷◌, length, nat_le, nat_lt}
use Rattle.space.specs.Meaning.{Meaning}
use Rattle.traces.specs.Lines.{Line, held_here, checked_here, due, cut}

-- What each call does to the line.

-- a checkpoint at the path's end, if the space below is not full
abbrev pub checked_below : {N C : Type 0} → Meaning N C → Line → Line
checked_below m l = cond (nat_lt (length m.held) m.capacity) (checked_here l) l

-- With 32 held nothing changes. Otherwise one more is held, with a checkpoint when one is due and the space below is
-- not full.
abbrev pub marked_line : {N C : Type 0} → Meaning N C → Line → Line
marked_line m l = cond (nat_lt (length l.depths) 32) (held_here (cond (due l) (checked_below m l) l)) l

-- the path is cut at the newest held depth, if there is one
abbrev pub restored_line : Line → Line
restored_line l = elim l.depths [ [] ↦ l | d ∷ ds ↦ cut l d ]

-- those that are not deeper than d
abbrev pub not_deeper : ℕ → List ℕ → List ℕ
not_deeper d [] = []
not_deeper d (c ∷ cs) = cond (nat_le c d) (c ∷ not_deeper d cs) (not_deeper d cs)

-- the checkpoints that stay beside these held depths: none deeper than the newest, and none when nothing is held
abbrev pub drop_deeper : List ℕ → List ℕ → List ℕ
drop_deeper [] cs = []
drop_deeper (d ∷ ds) cs = not_deeper d cs

-- the path and the held depths as they are, without the checkpoints that are too deep
abbrev pub pruned_line : Line → Line
pruned_line l = record { path = l.path; depths = l.depths; checks = drop_deeper l.depths l.checks; gap = l.gap }

-- the newest held depth goes, and with it the checkpoints that are deeper than the next
abbrev pub forgotten_line : Line → Line
forgotten_line l = elim l.depths [ [] ↦ l | d ∷ ds ↦ record { path = l.path; depths = ds; checks = drop_deeper ds l.checks; gap = l.gap } ]
