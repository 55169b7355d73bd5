use Rattle.std.specs.Prelude.{◌≡◌, ℕ, zero, suc, ◌+◌, ◌^◌, ◌<◌, ◌≤◌, min, Bool, true, cond, ◌&&◌, ◌||◌, List, ◌==◌, ◌≢◌, nat_lt, slice_index}
use Rattle.std.specs.Int.Count.{count_trailing_zeros}
use Rattle.words.specs.Words.{bit}

-- A cost is two numbers, stops and minutes: fewer stops are less, and at as many stops fewer minutes.
abbrev pub less : (ℕ × ℕ) → (ℕ × ℕ) → Bool
less a b = nat_lt a.0 b.0 || (a.0 == b.0 && nat_lt a.1 b.1)

-- b is the least of f over the values of w
pub record Least (f : ℕ → ℕ) (w b : ℕ) : Type 0 where
  pub attained : (v : ℕ) × (bit w v ≡ true) × (f v ≡ b)
  pub lowest : (v : ℕ) → bit w v ≡ true → b ≤ f v

-- the same, computed: the least of f at the smallest value of w and at its values below k
unfoldable pub best : (ℕ → ℕ) → ℕ → ℕ → ℕ
best f w zero = f (count_trailing_zeros 32 w)
best f w (suc k) = cond (bit w k) (min (f k) (best f w k)) (best f w k)

abbrev pub least : (ℕ → ℕ) → ℕ → ℕ
least f w = best f w 32

-- the computed least is the least, and there is one only
abbrev pub LeastLaw : Type 0
LeastLaw =
    ((f : ℕ → ℕ) (w : ℕ) → w < 2 ^ 32 → (w ≢ 0) → Least f w (least f w))
    × ((f : ℕ → ℕ) (w b c : ℕ) → Least f w b → Least f w c → b ≡ c)

-- f 0 + .. + f (k - 1)
unfoldable pub summed : (ℕ → ℕ) → ℕ → ℕ
summed f zero = 0
summed f (suc k) = summed f k + f k

-- the least stops of each of the variables in node n together, and the least minutes, each part by itself
abbrev pub bound : (ℕ → ℕ → ℕ) → (ℕ → ℕ → ℕ) → ℕ → List ℕ → ℕ × ℕ
bound stops minutes width n =
    (summed (λ i. least (stops i) (slice_index n i)) width, summed (λ i. least (minutes i) (slice_index n i)) width)

-- the stops and the minutes of the values of assignment a together
abbrev pub cost : (ℕ → ℕ → ℕ) → (ℕ → ℕ → ℕ) → ℕ → List ℕ → ℕ × ℕ
cost stops minutes width a = (summed (λ i. stops i (slice_index a i)) width, summed (λ i. minutes i (slice_index a i)) width)
