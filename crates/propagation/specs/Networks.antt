use Rattle.std.specs.Prelude.{◌≡◌, ℕ, ◌^◌, ◌<◌, ◌≤◌, Bool, true, false, ◌&&◌, List, length, replicate, ◌≢◌, slice_index}
use Rattle.words.specs.Words.{bit, has, Inside}
use Rattle.nodes.specs.Choosing.{Filled, Empty}

-- The constraints 0 .. count - 1 over the variables 0 .. width - 1.
pub record Network : Type 0 where
  pub width : ℕ
  pub count : ℕ
  -- the set of variables that constraint k is about
  pub touches : ℕ → ℕ
  -- constraint k supports value v of variable i in node n
  pub supports : ℕ → List ℕ → ℕ → ℕ → Bool
  -- an assignment, a list of values, meets constraint k
  pub meets : ℕ → List ℕ → Bool

-- constraint k supports every value of n
abbrev pub Holds : Network → ℕ → List ℕ → Type 0
Holds p k n = (i v : ℕ) → has n i v ≡ true → p.supports k n i v ≡ true

-- every constraint supports every value of n
abbrev pub Supported : Network → List ℕ → Type 0
Supported p n = (k : ℕ) → k < p.count → Holds p k n

-- constraint k is about none of these variables
abbrev pub Apart : Network → ℕ → ℕ → Type 0
Apart p k variables = (i : ℕ) → bit (p.touches k) i ≡ true → bit variables i ≡ false

-- unless a word of n is empty, every constraint that is about none of these variables supports every value of n
abbrev pub Settled : Network → List ℕ → ℕ → Type 0
Settled p n variables = Filled p.width n → (k : ℕ) → k < p.count → Apart p k variables → Holds p k n

-- m is the largest supported node inside n
pub record Largest (p : Network) (n m : List ℕ) : Type 0 where
  pub inside : Inside m n
  pub supported : Supported p m
  pub largest : (o : List ℕ) → Inside o n → Supported p o → Inside o m

-- the node with no value at all
abbrev pub dead : List ℕ
dead = replicate 32 0

-- c is the closure of n: the largest supported node inside n, or the dead node if that has an empty word
pub record ClosureOf (p : Network) (n c : List ℕ) : Type 0 where
  pub node : List ℕ
  pub long : length node ≡ 32
  pub largest : Largest p n node
  pub alive : Filled p.width node → c ≡ node
  pub fails : Empty p.width node → c ≡ dead

-- node o holds the assignment a: one value in each word in use
pub record Assigns (w : ℕ) (a o : List ℕ) : Type 0 where
  pub long : length a ≡ w
  pub value : (i : ℕ) → i < w → slice_index o i ≡ 2 ^ slice_index a i
  pub clear : (i : ℕ) → w ≤ i → slice_index o i ≡ 0

-- what a family of constraints keeps to
pub record Sane (p : Network) : Type 0 where
  -- more values, more support
  pub grows : (k i v : ℕ) (a b : List ℕ) → Inside a b → p.supports k a i v ≡ true → p.supports k b i v ≡ true
  -- among nodes without an empty word support depends on the touched words alone
  pub «local» : (k i v : ℕ) (a b : List ℕ) → Filled p.width a → Filled p.width b
      → ((j : ℕ) → bit (p.touches k) j ≡ true → slice_index a j ≡ slice_index b j) → p.supports k a i v ≡ true → p.supports k b i v ≡ true
  -- at an assignment a constraint supports every value exactly if it is met
  pub met : (k : ℕ) → k < p.count → (a o : List ℕ) → Assigns p.width a o → Holds p k o → p.meets k a ≡ true
  pub holds : (k : ℕ) → k < p.count → (a o : List ℕ) → Assigns p.width a o → p.meets k a ≡ true → Holds p k o

-- m is n without the values that constraint k does not support
abbrev pub Revised : Network → ℕ → List ℕ → List ℕ → Type 0
Revised p k n m = (i v : ℕ) → has m i v ≡ (has n i v && p.supports k n i v)

-- d is the set of the words that differ
pub record Differ (n m : List ℕ) (d : ℕ) : Type 0 where
  pub long : length m ≡ length n
  pub same : (i : ℕ) → bit d i ≡ false → slice_index m i ≡ slice_index n i
  pub other : (i : ℕ) → bit d i ≡ true → slice_index m i ≢ slice_index n i
