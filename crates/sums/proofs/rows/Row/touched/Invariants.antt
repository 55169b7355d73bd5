use Rattle.std.proofs.Common.{◌≡◌}
use Rattle.files.specs.Meaning.{bytes_of}
use Rattle.sum_networks.specs.Sums.{mask}
use Rattle.sum_networks.specs.Files.{sum_at}
use Rattle.sums.proofs.rows.Row.touched.Given as goal

abbrev pub invariant-loop-i : goal.invariant-loop-i
invariant-loop-i l = l.touched ≡ mask (sum_at (bytes_of l.self.view.now) l.self.k) l.i
