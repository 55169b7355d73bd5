use Rattle.std.specs.Prelude.{◌≡◌, ℕ, ◌<◌, ◌≤◌, Bool, ◌&&◌, List, ℤ, pos, ◌+ℤ◌, ◌*ℤ◌, int_le, slice_index}
use Rattle.words.specs.Words.{bit, has}
use Rattle.propagation.specs.Networks.{Differ}
use Rattle.sum_networks.specs.Sums.{Sum, rest}

-- k has the values of w whose product reaches the need
abbrev pub Reaching : ℤ → ℕ → ℤ → ℕ → Type 0
Reaching c w need k = (v : ℕ) → bit k v ≡ (bit w v && int_le need (c *ℤ pos v))

-- m is n with the words below i cut down to the values that pass, and d is the set of the words that changed
pub record Kept (passes : ℕ → ℕ → Bool) (n m : List ℕ) (i d : ℕ) : Type 0 where
  pub done : (j v : ℕ) → j < i → has m j v ≡ (has n j v && passes j v)
  pub ahead : (j : ℕ) → i ≤ j → slice_index m j ≡ slice_index n j
  pub differ : Differ n m d

-- with the largest product of each other word, value v of variable i reaches the sum
abbrev pub reaches : Sum → ℕ → List ℕ → ℕ → ℕ → Bool
reaches s width n i v = int_le s.least ((s.coefficient i *ℤ pos v) +ℤ rest s.coefficient n i width)
