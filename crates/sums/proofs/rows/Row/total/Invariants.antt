use Rattle.std.proofs.Common.{◌≡◌, ◌*◌, pos, neg_ℤ, ◌≤ℤ◌}
use Rattle.files.specs.Meaning.{bytes_of}
use Rattle.records.specs.Sums.{coefficient_at}
use Rattle.sum_networks.specs.Sums.{totals}
use Rattle.sums.proofs.rows.Row.total.Given as goal

abbrev pub invariant-loop-i : goal.invariant-loop-i
invariant-loop-i l =
    (l.sum ≡ totals (coefficient_at (bytes_of l.self.view.now) l.self.k) l.node.words l.i)
    × (neg_ℤ (pos (31000000 * l.i)) ≤ℤ l.sum) × (l.sum ≤ℤ pos (31000000 * l.i))
