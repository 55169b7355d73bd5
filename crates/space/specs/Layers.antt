use Rattle.std.specs.Prelude.{ℕ, ◌+◌, min, List, []}
use Rattle.space.specs.Meaning.{Meaning, fresh}

-- the number of a layer over the layer l
abbrev pub above : ℕ → ℕ
above l = min (l + 1) 255

-- What a layer means that holds nodes itself, over a space with meaning m: it names itself when it refuses a mark, and
-- all else is as below.
abbrev pub layered : {N C : Type 0} → Meaning N C → ℕ → List N → Meaning N C
layered m capacity held = record {
  tree = m.tree;
  cost = m.cost;
  width = m.width;
  current = m.current;
  held = held;
  capacity = capacity;
  allowance = m.allowance;
  layer = above m.layer;
  mark_layer = above m.layer;
  commit_layer = m.commit_layer;
}

-- such a layer as it is made: the space below is reset, and nothing is held
abbrev pub made_over : {N C : Type 0} → Meaning N C → ℕ → Meaning N C
made_over m capacity = layered (fresh m) capacity []
