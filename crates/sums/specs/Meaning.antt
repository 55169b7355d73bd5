use Rattle.std.specs.Prelude.{ℕ, List}
use Rattle.files.specs.Meaning.{bytes_of}
use Rattle.sums.specs.declared.problem.Sums.{Sums}

-- the bytes of the file that a problem is read from
abbrev pub file_of : Sums → List ℕ
file_of s = bytes_of s.view
