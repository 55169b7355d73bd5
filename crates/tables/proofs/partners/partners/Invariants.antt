use Rattle.records.specs.Tables.{table_row}
use Rattle.files.specs.Meaning.{bytes_of}
use Rattle.words.specs.Values.{left}
use Rattle.table_networks.proofs.Progress.{Progress}
use Rattle.tables.proofs.partners.partners.Given as goal

abbrev pub invariant-loop-a : goal.invariant-loop-a
invariant-loop-a l = Progress (table_row (bytes_of l.view) l.k) l.wx l.wy l.yielded (left l.a-iterator) l.supported l.any
