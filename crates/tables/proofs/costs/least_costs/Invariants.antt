use Rattle.records.specs.Tables.{stops, minutes}
use Rattle.files.specs.Meaning.{bytes_of}
use Rattle.words.specs.Values.{left}
use Rattle.table_networks.proofs.Prices.{Seen}
use Rattle.tables.proofs.costs.least_costs.Given as goal

abbrev pub invariant-loop-value : goal.invariant-loop-value
invariant-loop-value l =
    Seen (stops (bytes_of l.view) l.i) l.word l.yielded (left l.value-iterator) l.stops
    × Seen (minutes (bytes_of l.view) l.i) l.word l.yielded (left l.value-iterator) l.minutes
