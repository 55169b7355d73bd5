use Rattle.std.specs.Prelude.{◌≡◌, ℕ, ◌^◌, ◌<◌, ◌≤◌, Bool, true, false, cond, ◌&&◌, List, [], ◌∷◌, length, take, drop, ◌==◌, bit_and, bit_xor, nat_lt, slice_index, slice_set}
use Rattle.std.specs.Int.Count.{count_trailing_zeros}
use Rattle.trees.specs.Trees.{Tree, Solution, StrictOrder}
use Rattle.trees.specs.declared.Status.TheVariants.{Solved}
use Rattle.words.specs.Words.{has, Inside, Proper}
use Rattle.nodes.specs.Choosing.{Filled, status, chosen, smallest, rest, reach}
use Rattle.propagation.specs.Networks.{Network, Sane, Assigns}
use Rattle.propagation.specs.Closing.{closure, words}

-- ---- the tree of a problem

-- a word cut down to the value v, or with v removed
abbrev pub cut : ℕ → ℕ → Bool → ℕ
cut w v keep = cond keep (bit_and w (2 ^ v)) (bit_xor w (bit_and w (2 ^ v)))

-- node n with word x cut at the value v: alternative 0 keeps only v, any other removes it
abbrev pub narrowed : List ℕ → ℕ → ℕ → ℕ → List ℕ
narrowed n x v a = slice_set n x (cut (slice_index n x) v (a == 0))

-- the child of a choice node: the closure of the node narrowed at its choice
unfoldable pub step : Network → List ℕ → ℕ → List ℕ
step p n a = closure p (narrowed n (chosen n p.width) (smallest p.width n) a)

abbrev pub small : List ℕ → Bool
small [] = true
small (x ∷ xs) = nat_lt x (2 ^ 32) && small xs

abbrev pub zeros : List ℕ → Bool
zeros [] = true
zeros (x ∷ xs) = x == 0 && zeros xs

-- `Proper`, as a test
unfoldable pub proper : ℕ → List ℕ → Bool
proper w n = length n == 32 && (small n && zeros (drop w n))

-- the lowest value of each of the first w words
abbrev pub values : ℕ → List ℕ → List ℕ
values w n = words (λ i. count_trailing_zeros 32 (slice_index n i)) w 0

-- constraints, start words and a bound make a tree
abbrev pub tree_of : {C : Type 0} → Network → List ℕ → (List ℕ → C) → Tree (List ℕ) C
tree_of p start bound = record {
  root = closure p start;
  proper = proper p.width;
  words = take p.width;
  status = status p.width;
  step = step p;
  bound = bound;
  rest = rest p.width;
  reach = reach p.width;
}

-- ---- its solutions

-- the assignment a solves the problem: its values are in the start words, and it meets every constraint
pub record Solves (p : Network) (start a : List ℕ) : Type 0 where
  pub long : length a ≡ p.width
  pub within : (i : ℕ) → i < p.width → has start i (slice_index a i) ≡ true
  pub meets : (k : ℕ) → k < p.count → p.meets k a ≡ true

-- the solved leaves of the tree are the solving assignments, each at just one leaf
pub record LeavesSolve {C : Type 0} (p : Network) (start : List ℕ) (bound : List ℕ → C) : Type 0 where
  pub sound : (path m : List ℕ) → Solution (tree_of p start bound) path m → (a : List ℕ) × Assigns p.width a m × Solves p start a
  pub complete : (a : List ℕ) → Solves p start a → (path : List ℕ) × ((m : List ℕ) × (Solution (tree_of p start bound) path m × Assigns p.width a m))
  pub once : (a path m path' m' : List ℕ) → Solution (tree_of p start bound) path m → Solution (tree_of p start bound) path' m'
      → Assigns p.width a m → Assigns p.width a m' → path ≡ path'

-- ---- costs

-- what a bound keeps to: at an assignment it is the cost, and fewer values never lower it
pub record Priced {C : Type 0} (w : ℕ) (bound cost : List ℕ → C) (less : C → C → Bool) : Type 0 where
  pub ordered : StrictOrder less
  pub exact : (a n : List ℕ) → Proper w n → Assigns w a n → bound n ≡ cost a
  pub rises : (n m : List ℕ) → Proper w n → Proper w m → Inside m n → Filled w m → less (bound m) (bound n) ≡ false

-- what every problem keeps to
pub record Lawful {C : Type 0} (p : Network) (start : List ℕ) (bound cost : List ℕ → C) (less : C → C → Bool) : Type 0 where
  pub low : 0 < p.width
  pub high : p.width ≤ 32
  pub sane : Sane p
  pub proper : Proper p.width start
  pub priced : Priced p.width bound cost less

-- a solved node's bound is the cost of its values
abbrev pub SolvedCosts : {C : Type 0} → ℕ → (List ℕ → C) → (List ℕ → C) → Type 0
SolvedCosts w bound cost = (n : List ℕ) → proper w n ≡ true → status w n ≡ Solved → bound n ≡ cost (values w n)
