use Rattle.files.specs.Meaning.{bytes_of}
use Rattle.records.specs.Sums.{sum_width}
use Rattle.sum_networks.specs.Steps.{Kept, reaches}
use Rattle.sum_networks.specs.Files.{sum_at}
use Rattle.sums.proofs.rows.Row.narrow.Given as goal

abbrev pub invariant-loop-i : goal.invariant-loop-i
invariant-loop-i l = Kept (reaches (sum_at (bytes_of l.self.view.now) l.self.k) (sum_width (bytes_of l.self.view.now)) l.fn.node.words) l.initial.word-items l.word-items l.i l.changed
