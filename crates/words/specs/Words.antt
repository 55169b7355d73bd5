use Rattle.std.specs.Prelude.{◌≡◌, ℕ, ◌/◌, ◌%◌, ◌^◌, ◌<◌, ◌≤◌, Bool, true, false, List, length, ◌==◌, ◌≢◌, slice_index}

-- value v is in word w: bit v is set
unfoldable pub bit : ℕ → ℕ → Bool
bit w v = w / 2 ^ v % 2 == 1

-- variable i may have value v in node n, a list of words
abbrev pub has : List ℕ → ℕ → ℕ → Bool
has n i v = bit (slice_index n i) v

-- every value of a is in b
abbrev pub Inside : List ℕ → List ℕ → Type 0
Inside a b = (i v : ℕ) → has a i v ≡ true → has b i v ≡ true

-- n is a node: thirty-two words of 32 bits
pub record Fit (n : List ℕ) : Type 0 where
  pub long : length n ≡ 32
  pub small : (i : ℕ) → slice_index n i < 2 ^ 32

-- n is a node of a problem with w variables: the words beyond them are not in use
pub record Proper (w : ℕ) (n : List ℕ) : Type 0 where
  pub fit : Fit n
  pub clear : (i : ℕ) → w ≤ i → slice_index n i ≡ 0

-- v is the smallest value in w
pub record Lowest (w v : ℕ) : Type 0 where
  pub below : v < 32
  pub there : bit w v ≡ true
  pub least : (u : ℕ) → bit w u ≡ true → v ≤ u

-- v is the largest value in w
pub record Highest (w v : ℕ) : Type 0 where
  pub below : v < 32
  pub there : bit w v ≡ true
  pub most : (u : ℕ) → bit w u ≡ true → u ≤ v

-- r is w with the value v taken away
pub record Without (w v r : ℕ) : Type 0 where
  pub stays : (u : ℕ) → bit w u ≡ true → (u ≢ v) → bit r u ≡ true
  pub only : (u : ℕ) → bit r u ≡ true → (bit w u ≡ true) × (u ≢ v)

-- v is the one value of r
pub record Only (v r : ℕ) : Type 0 where
  pub is : r ≡ 2 ^ v
  pub there : bit r v ≡ true
  pub alone : (u : ℕ) → bit r u ≡ true → u ≡ v

-- r is the variable i alone if its word has changed, and none otherwise
pub record Change (i before after r : ℕ) : Type 0 where
  pub same : bit r i ≡ false → after ≡ before
  pub other : (j : ℕ) → bit r j ≡ true → (j ≡ i) × (after ≢ before)
