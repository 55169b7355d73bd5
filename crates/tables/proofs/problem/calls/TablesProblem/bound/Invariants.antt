use Rattle.files.specs.Meaning.{bytes_of}
use Rattle.records.specs.Tables.{stops, minutes}
use Rattle.table_networks.proofs.Prices.{Summed}
use Rattle.tables.proofs.problem.calls.TablesProblem.bound.Given as goal

abbrev pub invariant-loop-i : goal.invariant-loop-i
invariant-loop-i l = Summed (stops (bytes_of l.self.view)) (minutes (bytes_of l.self.view)) l.node.words l.i l.stops l.minutes
