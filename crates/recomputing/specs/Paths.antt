use Rattle.std.specs.Prelude.{◌≡◌, ℕ, ◌≤◌, List, [], ◌∷◌, length, take}
use Rattle.trees.specs.Trees.{Tree, Chooses}
use Rattle.space.specs.Meaning.{Meaning, placed}

-- the node that a path leads to
abbrev pub follow : {N C : Type 0} → Tree N C → N → List ℕ → N
follow t n [] = n
follow t n (a ∷ p) = follow t (t.step n a) p

-- each step of the path is alternative 0 or 1 of a choice node
abbrev pub Legal : {N C : Type 0} → Tree N C → N → List ℕ → Type 0
Legal t n [] = Unit {0}
Legal t n (a ∷ p) = Chooses t n × (a ≤ 1) × Legal t (t.step n a) p

-- the nodes at the given depths of a path from the root
abbrev pub nodes : {N C : Type 0} → Tree N C → List ℕ → List ℕ → List N
nodes t p [] = []
nodes t p (d ∷ ds) = follow t t.root (take d p) ∷ nodes t p ds

-- no depth is above the bound, nor above the one before it
abbrev pub Descends : ℕ → List ℕ → Type 0
Descends b [] = Unit {0}
Descends b (d ∷ ds) = (d ≤ b) × Descends d ds

-- the node at a depth of the path current
abbrev pub at_depth : {N C : Type 0} → Meaning N C → List ℕ → ℕ → Meaning N C
at_depth m p d = placed m (follow m.tree m.tree.root (take d p)) m.held

-- the path can be redone from one depth to another, and its node at the first is current
pub record Redoable {N C : Type 0} (m : Meaning N C) (p : List ℕ) (from to : ℕ) : Type 0 where
  pub legal : Legal m.tree m.tree.root p
  pub start : m.current ≡ follow m.tree m.tree.root (take from p)
  pub order : from ≤ to
  pub within : to ≤ length p
