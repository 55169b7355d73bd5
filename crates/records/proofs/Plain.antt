use Rattle.std.proofs.Common.{◌≡◌, ℕ, ◌<◌, refl, arith}
use Rattle.records.specs.Checks.{variables, table_code, limited, sum_width, sum_code, LawfulTable, LawfulSum}
use Rattle.records.specs.Tables.{variable_count, plain_table}
use Rattle.records.specs.Sums.{plain_sum}

table_passes : (k : ℕ) → k < 1 → table_code plain_table k ≡ 0
unfolding variables table_code
table_passes k h = let z : k ≡ 0 = omega arith in rw z

-- the two files that a view shows before it is filled pass all checks
pub table_lawful : LawfulTable plain_table
table_lawful = (refl, table_passes)

pub one_variable : variable_count plain_table ≡ 1
unfolding variables variable_count
one_variable = refl

sum_passes : (k : ℕ) → k < 1 → sum_code plain_sum k ≡ 0
unfolding limited sum_width sum_code
sum_passes k h = let z : k ≡ 0 = omega arith in rw z

pub sum_lawful : LawfulSum plain_sum
sum_lawful = (refl, sum_passes)

pub one_wide : sum_width plain_sum ≡ 1
unfolding sum_width
one_wide = refl
