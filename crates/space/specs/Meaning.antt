use Rattle.std.specs.Prelude.{ℕ, ◌-◌, Bool, true, false, List, []}
use Rattle.trees.specs.Trees.{Tree}
use Rattle.trees.specs.declared.Status.{Status}
use Rattle.trees.specs.declared.Status.TheVariants.{Failed, Solved, Choice}

-- What a space means: the plain space that it stands for, over nodes of any make.
pub record Meaning (N C : Type 0) : Type 0 where
  pub tree : Tree N C
  -- what a solved node costs
  pub cost : N → C
  -- the number of words of a node
  pub width : ℕ
  pub current : N
  -- the held nodes, the newest first
  pub held : List N
  -- how many nodes it can hold
  pub capacity : ℕ
  -- how many commits are left
  pub allowance : ℕ
  pub layer : ℕ
  -- the layers that are named when a mark and when a commit is refused
  pub mark_layer : ℕ
  pub commit_layer : ℕ

-- the status of the current node, and its words
abbrev pub status_now : {N C : Type 0} → Meaning N C → Status
status_now m = m.tree.status m.current

abbrev pub words_now : {N C : Type 0} → Meaning N C → List ℕ
words_now m = m.tree.words m.current

abbrev pub is_choice : Status → Bool
is_choice Failed = false
is_choice Solved = false
is_choice (Choice c) = true

abbrev pub is_failed : Status → Bool
is_failed Failed = true
is_failed Solved = false
is_failed (Choice c) = false

-- another node current, and other nodes held
abbrev pub placed : {N C : Type 0} → Meaning N C → N → List N → Meaning N C
placed m n h = record {
  tree = m.tree;
  cost = m.cost;
  width = m.width;
  current = n;
  held = h;
  capacity = m.capacity;
  allowance = m.allowance;
  layer = m.layer;
  mark_layer = m.mark_layer;
  commit_layer = m.commit_layer;
}

-- one commit fewer left
abbrev pub spent : {N C : Type 0} → Meaning N C → Meaning N C
spent m = record {
  tree = m.tree;
  cost = m.cost;
  width = m.width;
  current = m.current;
  held = m.held;
  capacity = m.capacity;
  allowance = m.allowance - 1;
  layer = m.layer;
  mark_layer = m.mark_layer;
  commit_layer = m.commit_layer;
}

-- the child for an alternative current
abbrev pub moved : {N C : Type 0} → Meaning N C → ℕ → Meaning N C
moved m a = placed m (m.tree.step m.current a) m.held

-- the root current, and nothing held
abbrev pub fresh : {N C : Type 0} → Meaning N C → Meaning N C
fresh m = placed m m.tree.root []
