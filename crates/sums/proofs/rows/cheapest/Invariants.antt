use Rattle.std.proofs.Common.{◌≡◌, ◌*◌, pos, neg_ℤ, ◌≤ℤ◌}
use Rattle.files.specs.Meaning.{bytes_of}
use Rattle.records.specs.Sums.{objective_at}
use Rattle.sum_networks.specs.Sums.{least_total}
use Rattle.sums.proofs.rows.cheapest.Given as goal

abbrev pub invariant-loop-i : goal.invariant-loop-i
invariant-loop-i l =
    (l.sum ≡ least_total (objective_at (bytes_of l.view)) l.i l.node.words)
    × (neg_ℤ (pos (31000000 * l.i)) ≤ℤ l.sum) × (l.sum ≤ℤ pos (31000000 * l.i))
