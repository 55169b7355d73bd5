use Rattle.std.specs.Prelude.{ℕ, Bool, not, ◌||◌, List, length, ◌==◌, filter}
use Rattle.std.specs.List.{slice_split}

-- a blank, a tab or a carriage return
abbrev pub is_blank : ℕ → Bool
is_blank x = x == 32 || (x == 9 || x == 13)

-- the words of a line: what stands between its blanks and is not empty
abbrev pub words : List ℕ → List (List ℕ)
words line = filter (λ word. not (length word == 0)) (slice_split is_blank line)
