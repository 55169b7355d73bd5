use Rattle.std.specs.Prelude.{◌≡◌, ℕ, zero, suc, ◌-◌, ◌<◌, Bool, true, false, cond, not, ◌&&◌, ◌||◌, List, ℤ, pos, negsuc, ◌+ℤ◌, ◌*ℤ◌, ◌≤ℤ◌, ◌==◌, ◌≢◌, int_le, int_lt, nat_lt, slice_index}
use Rattle.std.specs.Int.Count.{count_trailing_zeros, count_leading_zeros}
use Rattle.words.specs.Words.{bit, Fit}
use Rattle.nodes.specs.Choosing.{Filled}
use Rattle.propagation.specs.Networks.{Network}
use Rattle.propagation.specs.Closing.{those}

-- Sums over variables that have words of values.

-- Values meet a sum if their total, each value times its coefficient, is `least` or more.
pub record Sum : Type 0 where
  pub coefficient : ℕ → ℤ
  pub least : ℤ

-- f 0 + .. + f (k - 1)
abbrev pub summed : (ℕ → ℤ) → ℕ → ℤ
summed f zero = pos 0
summed f (suc k) = summed f k +ℤ f k

-- the same without f i
abbrev pub summed_but : (ℕ → ℤ) → ℕ → ℕ → ℤ
summed_but f i zero = pos 0
summed_but f i (suc k) = cond (k == i) (summed_but f i k) (summed_but f i k +ℤ f k)

-- ---- in words

-- b is the largest c × u with u in w
pub record Most (c : ℤ) (w : ℕ) (b : ℤ) : Type 0 where
  pub value : ℕ
  pub there : bit w value ≡ true
  pub is : b ≡ c *ℤ pos value
  pub bound : (u : ℕ) → bit w u ≡ true → (c *ℤ pos u) ≤ℤ b

-- b is the least c × u with u in w
pub record Least (c : ℤ) (w : ℕ) (b : ℤ) : Type 0 where
  pub value : ℕ
  pub there : bit w value ≡ true
  pub is : b ≡ c *ℤ pos value
  pub bound : (u : ℕ) → bit w u ≡ true → b ≤ℤ (c *ℤ pos u)

-- no other word than i is empty, and value v of i with the largest product of each other word reaches the sum
abbrev pub SupportedBy : Sum → ℕ → List ℕ → ℕ → ℕ → Type 0
SupportedBy s width n i v =
    ((j : ℕ) → j < width → (j ≢ i) → slice_index n j ≢ 0)
    × ((best : ℕ → ℤ) × ((j : ℕ) → j < width → (j ≢ i) → Most (s.coefficient j) (slice_index n j) (best j))
    × (s.least ≤ℤ ((s.coefficient i *ℤ pos v) +ℤ summed_but best i width)))

-- ---- computed

-- the lowest and the highest value of a word that is not 0; a number w has no more than w binary digits
abbrev pub lowest_value : ℕ → ℕ
lowest_value w = count_trailing_zeros w w

abbrev pub highest_value : ℕ → ℕ
highest_value w = w - 1 - count_leading_zeros w w

-- the product at one end of a word, the low one or the high one
abbrev pub product_at : Bool → ℤ → ℕ → ℤ
product_at low c w = c *ℤ pos (cond low (lowest_value w) (highest_value w))

-- the largest c × u with u in w: at the low end for c below 0, else at the high end
unfoldable pub largest : ℤ → ℕ → ℤ
largest c w = product_at (int_lt c (pos 0)) c w

-- the least: at the other end
unfoldable pub smallest_product : ℤ → ℕ → ℤ
smallest_product c w = product_at (not (int_lt c (pos 0))) c w

-- the total of the largest products of the first k words
abbrev pub totals : (ℕ → ℤ) → List ℕ → ℕ → ℤ
totals c n k = summed (λ j. largest (c j) (slice_index n j)) k

-- the same without word i
abbrev pub rest : (ℕ → ℤ) → List ℕ → ℕ → ℕ → ℤ
rest c n i k = summed_but (λ j. largest (c j) (slice_index n j)) i k

-- every word below k but i has a value
abbrev pub others : List ℕ → ℕ → ℕ → Bool
others n i zero = true
others n i (suc k) = (k == i || not (slice_index n k == 0)) && others n i k

-- the sum supports value v of variable i
unfoldable pub sum_supports : Sum → ℕ → List ℕ → ℕ → ℕ → Bool
sum_supports s width n i v =
    cond (nat_lt i width) (others n i width && int_le s.least ((s.coefficient i *ℤ pos v) +ℤ rest s.coefficient n i width)) true

-- a coefficient that is not 0
abbrev pub counts : ℤ → Bool
counts (pos zero) = false
counts (pos (suc a)) = true
counts (negsuc a) = true

-- the set of the variables that a sum is about
unfoldable pub mask : Sum → ℕ → ℕ
mask s width = those (λ i. counts (s.coefficient i)) width

-- the total of an assignment, each value times its coefficient
unfoldable pub total_of : (ℕ → ℤ) → ℕ → List ℕ → ℤ
total_of c width a = summed (λ i. c i *ℤ pos (slice_index a i)) width

-- the sums 0 .. count - 1 as constraints
abbrev pub sums_network : ℕ → ℕ → (ℕ → Sum) → Network
sums_network width count sum = record {
  width = width;
  count = count;
  touches = λ k. mask (sum k) width;
  supports = λ k. sum_supports (sum k) width;
  meets = λ k a. int_le (sum k).least (total_of (sum k).coefficient width a);
}

-- the least that an assignment in a node can cost: the total of the least products
unfoldable pub least_total : (ℕ → ℤ) → ℕ → List ℕ → ℤ
least_total c width n = summed (λ j. smallest_product (c j) (slice_index n j)) width

-- ---- the computed notions are those in words

abbrev pub SupportLaw : Sum → ℕ → Type 0
SupportLaw s width = (n : List ℕ) → Fit n → (i v : ℕ) → i < width
    → (sum_supports s width n i v ≡ true → SupportedBy s width n i v) × (SupportedBy s width n i v → sum_supports s width n i v ≡ true)

abbrev pub BoundLaw : (ℕ → ℤ) → ℕ → Type 0
BoundLaw c width = (n : List ℕ) → Filled width n
    → (best : ℕ → ℤ) × ((j : ℕ) → j < width → Least (c j) (slice_index n j) (best j)) × (least_total c width n ≡ summed best width)
