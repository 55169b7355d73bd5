use Rattle.std.proofs.Common.{◌≡◌, ℕ, ◌<◌}
use Rattle.records.specs.Checks.{sum_code}
use Rattle.sum_checks.proofs.check.Given as goal

abbrev pub invariant-loop-k : goal.invariant-loop-k
invariant-loop-k l = (j : ℕ) → j < l.k-counter → sum_code l.bytes j ≡ 0
