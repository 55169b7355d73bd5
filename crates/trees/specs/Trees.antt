use Rattle.std.specs.Prelude.{◌≡◌, List, [], ◌∷◌, Bool, true, false, ℕ, ◌<◌, ◌≤◌, length, get_or}
use Rattle.trees.specs.declared.Status.{Status}
use Rattle.trees.specs.declared.Status.TheVariants.{Failed, Solved, Choice}

-- A search tree over nodes of type N with costs of type C. `proper` tells which values of N are nodes. `rest` and
-- `reach` are two counts of a node that fall along every path; they bound the length of a path and the nodes held.
pub record Tree (N C : Type 0) : Type 0 where
  pub root : N
  pub proper : N → Bool
  pub words : N → List ℕ
  pub status : N → Status
  -- the child for an alternative, 0 or 1
  pub step : N → ℕ → N
  -- no solution below the node costs less
  pub bound : N → C
  pub rest : N → ℕ
  pub reach : N → ℕ

-- n is a choice node
abbrev pub Chooses : {N C : Type 0} → Tree N C → N → Type 0
Chooses t n = (c : ℕ × ℕ) × (t.status n ≡ Choice c)

-- the path, a list of alternatives, leads from n to m by steps from choice nodes
abbrev pub Leads : {N C : Type 0} → Tree N C → N → List ℕ → N → Type 0
Leads t n [] m = n ≡ m
Leads t n (a ∷ path) m = Chooses t n × (a ≤ 1) × Leads t (t.step n a) path m

-- m is a solved node of the tree, and this is its path
abbrev pub Solution : {N C : Type 0} → Tree N C → List ℕ → N → Type 0
Solution t path m = Leads t t.root path m × (t.status m ≡ Solved)

-- less is a strict total order
pub record StrictOrder {C : Type 0} (less : C → C → Bool) : Type 0 where
  pub irreflexive : (a : C) → less a a ≡ false
  pub transitive : (a b c : C) → less a b ≡ true → less b c ≡ true → less a c ≡ true
  pub total : (a b : C) → less a b ≡ false → less b a ≡ false → a ≡ b

-- What every tree keeps to, at every node.
pub record Orderly {N C : Type 0} (t : Tree N C) (less : C → C → Bool) (width : ℕ) : Type 0 where
  pub root_proper : t.proper t.root ≡ true
  pub step_proper : (n : N) (a : ℕ) → t.proper n ≡ true → Chooses t n → a ≤ 1 → t.proper (t.step n a) ≡ true
  -- a node has as many words as the tree is wide
  pub wide : (n : N) → t.proper n ≡ true → length (t.words n) ≡ width
  pub rest_most : (n : N) → t.proper n ≡ true → t.rest n ≤ 992
  pub reach_most : (n : N) → t.proper n ≡ true → t.reach n ≤ 32
  -- each step lowers rest; alternative 0 lowers reach too, and alternative 1 never raises it
  pub rest_falls : (n : N) (a : ℕ) → t.proper n ≡ true → Chooses t n → a ≤ 1 → t.rest (t.step n a) < t.rest n
  pub reach_falls : (n : N) → t.proper n ≡ true → Chooses t n → t.reach (t.step n 0) < t.reach n
  pub reach_stays : (n : N) → t.proper n ≡ true → Chooses t n → t.reach (t.step n 1) ≤ t.reach n
  -- a solved node has no empty word
  pub filled : (n : N) → t.proper n ≡ true → t.status n ≡ Solved → (i : ℕ) → i < width → get_or (t.words n) i 0 ≡ 0 → ⊥
  -- a child that is not failed has no lower bound
  pub rises : (n : N) (a : ℕ) → t.proper n ≡ true → Chooses t n → a ≤ 1 → (t.status (t.step n a) ≡ Failed → ⊥) → less (t.bound (t.step n a)) (t.bound n) ≡ false
  pub ordered : StrictOrder less
