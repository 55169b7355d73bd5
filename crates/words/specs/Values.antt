use Rattle.std.specs.Prelude.{ℕ, List, filter}
use Rattle.std.specs.List.{range_with_len}
use Rattle.words.specs.Words.{bit}
use Rattle.words.specs.declared.Values.{Values}

-- the values of word w, smallest first
unfoldable pub values_of : ℕ → List ℕ
values_of w = filter (bit w) (range_with_len 0 32)

-- the values that are still to come
abbrev pub left : Values → List ℕ
left s = values_of s.0
