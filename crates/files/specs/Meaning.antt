use Rattle.std.specs.Prelude.{ℕ, List}
use Rattle.files.specs.declared.formats.Format.{Ghosts}
use Rattle.files.specs.declared.view.View.{View}

-- the bytes that a view shows
abbrev pub bytes_of : {X : Type 0} {format : Ghosts X} → View X format → List ℕ
bytes_of v = v.bytes.now
