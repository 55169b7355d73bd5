use Rattle.std.proofs.Common.{◌≡◌, ℕ, ◌<◌, ◌≤◌}
use Rattle.records.specs.Checks.{variables, table_code}
use Rattle.table_checks.proofs.check.Given as goal

abbrev pub invariant-loop-k : goal.invariant-loop-k
invariant-loop-k l =
    (l.variables ≡ variables l.bytes l.k-counter) × (l.variables ≤ 32)
    × ((j : ℕ) → j < l.k-counter → table_code l.bytes j ≡ 0)
