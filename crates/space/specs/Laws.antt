use Rattle.std.specs.Prelude.{◌≡◌, ℕ, ◌<◌, ◌≤◌, Bool, true, List, [], ◌∷◌, length}
use Rattle.trees.specs.Trees.{Tree, Orderly}
use Rattle.trees.specs.declared.Status.TheVariants.{Solved}
use Rattle.space.specs.Meaning.{Meaning}

-- every one of these is a node of the tree
abbrev pub AllProper : {N C : Type 0} → Tree N C → List N → Type 0
AllProper t [] = Unit {0}
AllProper t (n ∷ ns) = (t.proper n ≡ true) × AllProper t ns

-- What every space keeps to: the laws of its tree at every node, and its numbers within their limits.
pub record Lawful {N C : Type 0} (m : Meaning N C) (less : C → C → Bool) : Type 0 where
  pub orderly : Orderly m.tree less m.width
  -- the bound of a solved node is its cost
  pub priced : (n : N) → m.tree.proper n ≡ true → m.tree.status n ≡ Solved → m.tree.bound n ≡ m.cost n
  pub current : m.tree.proper m.current ≡ true
  pub nodes : AllProper m.tree m.held
  pub low : 0 < m.width
  pub high : m.width ≤ 32
  pub capacity : m.capacity ≤ 32
  pub held : length m.held ≤ m.capacity
  pub allowance : m.allowance ≤ 1000000000000
  pub layer : m.layer ≤ 255

-- A node is its words and nothing else: its words alone name it.
abbrev pub NamedByWords : {N C : Type 0} → Tree N C → (List ℕ → N) → Type 0
NamedByWords {N} t named = (n : N) → t.proper n ≡ true → named (t.words n) ≡ n
