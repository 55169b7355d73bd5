use Rattle.std.specs.Prelude.{ℕ, zero, suc, ◌+◌, ◌^◌, Bool, true, cond, ◌&&◌, List, [], ◌∷◌, ◌==◌, bit_or}
use Rattle.words.specs.Words.{has}
use Rattle.nodes.specs.Choosing.{empty_below}
use Rattle.propagation.specs.Networks.{Network, dead}

-- The closure computed, by sweeps over all values; `ClosureOf` of Networks says what it is.

-- the values below k that pass
abbrev pub those : (ℕ → Bool) → ℕ → ℕ
those q zero = 0
those q (suc k) = bit_or (cond (q k) (2 ^ k) 0) (those q k)

-- k words, from number i on
abbrev pub words : (ℕ → ℕ) → ℕ → ℕ → List ℕ
words f zero i = []
words f (suc k) i = f i ∷ words f k (suc i)

-- every constraint below k supports value v of i
abbrev pub supported : Network → List ℕ → ℕ → ℕ → ℕ → Bool
supported p n zero i v = true
supported p n (suc k) i v = p.supports k n i v && supported p n k i v

-- one sweep: the supported values of each word
unfoldable pub sweep : Network → List ℕ → List ℕ
sweep p n = words (λ i. those (λ v. has n i v && supported p n p.count i v) 32) 32 0

abbrev pub total : List ℕ → ℕ
total [] = 0
total (w ∷ ws) = w + total ws

-- sweeps until one takes nothing away: a sweep that does lowers the total
unfoldable pub sweeps : Network → ℕ → List ℕ → List ℕ
sweeps p zero n = n
sweeps p (suc f) n = cond (total (sweep p n) == total n) n (sweeps p f (sweep p n))

unfoldable pub closure : Network → List ℕ → List ℕ
closure p n = cond (empty_below p.width (sweeps p (suc (total n)) n)) dead (sweeps p (suc (total n)) n)
