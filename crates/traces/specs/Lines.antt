use Rattle.std.specs.Prelude.{ℕ, ◌%◌, Bool, true, false, cond, ltb, List, [], ◌∷◌, ◌++◌, length, take, ◌==◌, nat_lt}

-- What a recomputing layer keeps: the path from the root, the depth of each held node and of each checkpoint, the
-- newest first, and how many marks there are to a checkpoint.
pub record Line : Type 0 where
  pub path : List ℕ
  pub depths : List ℕ
  pub checks : List ℕ
  pub gap : ℕ

-- a gap of 0 counts as 1, one above 32 as 32
abbrev pub gap_within : ℕ → ℕ
gap_within g = cond (g == 0) 1 (cond (nat_lt 32 g) 32 g)

-- at the root, with nothing held
abbrev pub blank : ℕ → Line
blank g = record { path = []; depths = []; checks = []; gap = g }

-- a step more
abbrev pub stepped : Line → ℕ → Line
stepped l a = record { path = l.path ++ (a ∷ []); depths = l.depths; checks = l.checks; gap = l.gap }

-- a held node more, at the path's end
abbrev pub held_here : Line → Line
held_here l = record { path = l.path; depths = length l.path ∷ l.depths; checks = l.checks; gap = l.gap }

-- a checkpoint more, at the path's end
abbrev pub checked_here : Line → Line
checked_here l = record { path = l.path; depths = l.depths; checks = length l.path ∷ l.checks; gap = l.gap }

-- the same three where there is room, and no change where there is none
abbrev pub stepped_if_room : Line → ℕ → Line
stepped_if_room l a = cond (nat_lt (length l.path) 992) (stepped l a) l

abbrev pub held_if_room : Line → Line
held_if_room l = cond (nat_lt (length l.depths) 32) (held_here l) l

abbrev pub checked_if_room : Line → Line
checked_if_room l = cond (nat_lt (length l.checks) 32) (checked_here l) l

-- all but the newest
abbrev pub rest_of : List ℕ → List ℕ
rest_of [] = []
rest_of (d ∷ ds) = ds

-- the newest held node is held no more
abbrev pub released : Line → Line
released l = record { path = l.path; depths = rest_of l.depths; checks = l.checks; gap = l.gap }

-- the newest checkpoint is gone
abbrev pub unchecked : Line → Line
unchecked l = record { path = l.path; depths = l.depths; checks = rest_of l.checks; gap = l.gap }

-- the path ends at depth d, if it went deeper
abbrev pub cut : Line → ℕ → Line
cut l d = record { path = take d l.path; depths = l.depths; checks = l.checks; gap = l.gap }

-- the depth of the newest, and 0 if there is none
abbrev pub top : List ℕ → ℕ
top [] = 0
top (d ∷ ds) = d

-- the newest checkpoint is deeper than the newest held node, or no node is held
abbrev pub stale : Line → Bool
stale l = elim l.checks [ [] ↦ false | c ∷ cs ↦ elim l.depths [ [] ↦ true | d ∷ ds ↦ ltb d c ] ]

-- the count of held nodes is a multiple of the gap
abbrev pub due : Line → Bool
due l = length l.depths % l.gap == 0
