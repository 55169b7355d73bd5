use Rattle.std.specs.Prelude.{ℕ, List}
use Rattle.files.specs.Meaning.{bytes_of}
use Rattle.tables.specs.declared.problem.Tables.{Tables}

-- the bytes of the table file that a problem stands on
abbrev pub file_of : Tables → List ℕ
file_of t = bytes_of t.view
