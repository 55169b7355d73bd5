use Rattle.std.specs.Prelude.{◌≡◌, ℕ, ◌+◌, ◌-◌, ◌*◌, ◌<◌, List, ◌∷◌, length, replicate, ℤ, pos, negsuc, ◌≤ℤ◌}
use Rattle.records.specs.Words.{signed}
use Rattle.records.specs.Checks.{line, count}
-- n of a sum file stands with the checks
pub use Rattle.records.specs.Checks.{sum_width}

-- how many sums follow the objective
abbrev pub sum_count : List ℕ → ℕ
sum_count bs = count bs - 1

-- coefficient i of the objective
unfoldable pub objective_at : List ℕ → ℕ → ℤ
objective_at bs i = signed (line bs 0) (8 + 4 * i)

-- coefficient i of sum k
unfoldable pub coefficient_at : List ℕ → ℕ → ℕ → ℤ
coefficient_at bs k i = signed (line bs (k + 1)) (8 + 4 * i)

-- the least value r of sum k
unfoldable pub least_at : List ℕ → ℕ → ℤ
least_at bs k = signed (line bs (k + 1)) 4

-- within the limit of a coefficient
abbrev pub Small : ℤ → Type 0
Small c = (negsuc 999999 ≤ℤ c) × (c ≤ℤ pos 1000000)

-- within the limit of a least value
abbrev pub Moderate : ℤ → Type 0
Moderate c = (negsuc 39999999 ≤ℤ c) × (c ≤ℤ pos 40000000)

-- the file of one record: an objective of one variable, with the coefficient 0
abbrev pub plain_sum : List ℕ
plain_sum = 3 ∷ 1 ∷ replicate 134 0

-- l is the record of the objective, whose coefficients are within their limit
pub record ObjectiveLine (bs : List ℕ) (l : List ℕ) : Type 0 where
  pub size : length l ≡ 136
  pub parts : (i : ℕ) → signed l (8 + 4 * i) ≡ objective_at bs i
  pub small : (i : ℕ) → i < 32 → Small (objective_at bs i)

-- l is the record of sum k, whose numbers are within their limits
pub record SumLine (bs : List ℕ) (k : ℕ) (l : List ℕ) : Type 0 where
  pub size : length l ≡ 136
  pub inside : k < sum_count bs
  pub least : signed l 4 ≡ least_at bs k
  pub moderate : Moderate (least_at bs k)
  pub parts : (i : ℕ) → signed l (8 + 4 * i) ≡ coefficient_at bs k i
  pub small : (i : ℕ) → i < 32 → Small (coefficient_at bs k i)
