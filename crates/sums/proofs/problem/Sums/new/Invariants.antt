use Rattle.std.proofs.Common.{◌≡◌, ℕ, ◌<◌, length, get_or}
use Rattle.files.specs.Meaning.{bytes_of}
use Rattle.records.specs.Sums.{sum_width}
use Rattle.sum_networks.specs.Sums.{mask}
use Rattle.sum_networks.specs.Files.{sum_at}
use Rattle.sums.proofs.problem.Sums.new.Given as goal

abbrev pub invariant-loop-k : goal.invariant-loop-k
invariant-loop-k l = (length l.touched ≡ 64) × ((j : ℕ) → j < l.k → get_or l.touched j 0 ≡ mask (sum_at (bytes_of l.view) j) (sum_width (bytes_of l.view)))
