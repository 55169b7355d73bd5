use Rattle.std.specs.Prelude.{List, reverse}
use Rattle.trails.specs.declared.entry.Entry.{Entry}
use Rattle.trails.specs.declared.table.Trail.{Trail}
use Rattle.trails.specs.Entries.{parts}

-- the entries of a trail since each mark, the newest first
abbrev pub segments : Trail → List (List Entry)
segments t = parts t.entries (reverse t.marks.items)
