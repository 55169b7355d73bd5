use Rattle.std.specs.Prelude.{◌≡◌, ℕ, zero, suc, ◌+◌, ◌-◌, ◌<◌, ◌≤◌, Bool, false, cond, ◌&&◌, ◌||◌, List, ◌==◌, ◌≢◌, count_ones, nat_lt, slice_index}
use Rattle.std.specs.Int.Count.{count_trailing_zeros}
use Rattle.trees.specs.declared.Status.{Status}
use Rattle.trees.specs.declared.Status.TheVariants.{Failed, Solved, Choice}
use Rattle.words.specs.Words.{Lowest}

-- ---- in words: what a status says of a node with w variables

-- no word is empty
abbrev pub Filled : ℕ → List ℕ → Type 0
Filled w n = (i : ℕ) → i < w → slice_index n i ≢ 0

-- some word is empty
abbrev pub Empty : ℕ → List ℕ → Type 0
Empty w n = (i : ℕ) × (i < w) × (slice_index n i ≡ 0)

-- Of the variables with more than one value x has the fewest, and the lowest number among those with as few;
-- v is the smallest value of x.
pub record Chosen (w : ℕ) (n : List ℕ) (x v : ℕ) : Type 0 where
  pub below : x < w
  pub several : 1 < count_ones (slice_index n x)
  pub fewest : (j : ℕ) → j < w → 1 < count_ones (slice_index n j) → count_ones (slice_index n x) ≤ count_ones (slice_index n j)
  pub first : (j : ℕ) → j < x → 1 < count_ones (slice_index n j) → count_ones (slice_index n x) < count_ones (slice_index n j)
  pub smallest : Lowest (slice_index n x) v

-- failed: a word is empty; solved: each word holds one value; otherwise the choice
abbrev pub Says : ℕ → List ℕ → Status → Type 0
Says w n Failed = Empty w n
Says w n Solved = (i : ℕ) → i < w → count_ones (slice_index n i) ≡ 1
Says w n (Choice c) = Filled w n × Chosen w n c.0 c.1

-- ---- the same, computed

-- one of the first k words is empty
abbrev pub empty_below : ℕ → List ℕ → Bool
empty_below zero n = false
empty_below (suc k) n = slice_index n k == 0 || empty_below k n

-- word k has more than one value, and fewer than `least`
abbrev pub better : List ℕ → ℕ → ℕ → Bool
better n k least = nat_lt 1 (count_ones (slice_index n k)) && nat_lt (count_ones (slice_index n k)) least

-- the fewest values, but more than one, of the first k words; 33 where there is no such word
unfoldable pub fewest : List ℕ → ℕ → ℕ
fewest n zero = 33
fewest n (suc k) = cond (better n k (fewest n k)) (count_ones (slice_index n k)) (fewest n k)

-- the first variable with that many
unfoldable pub chosen : List ℕ → ℕ → ℕ
chosen n zero = 0
chosen n (suc k) = cond (better n k (fewest n k)) k (chosen n k)

-- the smallest value of that variable
abbrev pub smallest : ℕ → List ℕ → ℕ
smallest w n = count_trailing_zeros 32 (slice_index n (chosen n w))

abbrev pub status : ℕ → List ℕ → Status
status w n = cond (empty_below w n) Failed (cond (fewest n w == 33) Solved (Choice (chosen n w, smallest w n)))

-- the values beyond the first in the first k words
unfoldable pub surplus : List ℕ → ℕ → ℕ
surplus n zero = 0
surplus n (suc k) = surplus n k + (count_ones (slice_index n k) - 1)

-- how many of the first k words have more than one value
unfoldable pub wide : List ℕ → ℕ → ℕ
wide n zero = 0
wide n (suc k) = wide n k + cond (nat_lt 1 (count_ones (slice_index n k))) 1 0

-- values beyond the first, and words with more than one value; both 0 at a failed node
abbrev pub rest : ℕ → List ℕ → ℕ
rest w n = cond (empty_below w n) 0 (surplus n w)

abbrev pub reach : ℕ → List ℕ → ℕ
reach w n = cond (empty_below w n) 0 (wide n w)
