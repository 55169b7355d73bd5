use Rattle.std.specs.Prelude.{◌≡◌, ℕ, ◌≤◌, List, length}
use Rattle.trees.specs.Trees.{Chooses}
use Rattle.space.specs.Meaning.{Meaning, placed}
use Rattle.space.specs.Laws.{AllProper}

-- What a layer knows of the space below it, which meant m before and means n now.

-- the child for an alternative is current, and the same nodes are held; the step may have lowered the allowance
pub record Stepped {N C : Type 0} (m : Meaning N C) (a : ℕ) (n : Meaning N C) : Type 0 where
  pub choice : Chooses m.tree m.current
  pub alternative : a ≤ 1
  pub tree : n.tree ≡ m.tree
  pub width : n.width ≡ m.width
  pub current : n.current ≡ m.tree.step m.current a
  pub held : n.held ≡ m.held

-- the node x is current, and all else is as before but for the nodes that the space below holds
abbrev pub At : {N C : Type 0} → Meaning N C → N → Meaning N C → Type 0
At m x n = n ≡ placed m x n.held

-- what a layer holds are nodes of the tree, and no more of them than it can hold
pub record Keeps {N C : Type 0} (m : Meaning N C) (capacity : ℕ) (held : List N) : Type 0 where
  pub nodes : AllProper m.tree held
  pub few : capacity ≤ 32
  pub room : length held ≤ capacity
