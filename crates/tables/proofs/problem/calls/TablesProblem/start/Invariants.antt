use Rattle.files.specs.Meaning.{bytes_of}
use Rattle.records.specs.Tables.{start_word}
use Rattle.table_networks.proofs.Starts.{FilledTo}
use Rattle.tables.proofs.problem.calls.TablesProblem.start.Given as goal

abbrev pub invariant-loop-i : goal.invariant-loop-i
invariant-loop-i l = FilledTo (start_word (bytes_of l.self.view)) l.i l.words
