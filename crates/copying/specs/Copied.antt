use Rattle.std.specs.Prelude.{◌≡◌, ℕ, List, [], ◌∷◌, ◌++◌, map, reverse, take}
use Rattle.nodes.specs.declared.node.Node.{Node}
use Rattle.space.specs.Meaning.{Meaning, words_now}
use Rattle.space.specs.Laws.{AllProper}
use Rattle.space.specs.Layers.{layered}
use Rattle.copying.specs.declared.copies.Copies.{Copies}

-- the nodes that the copies are of, the newest first: each is the one that its words name, as many as the space is wide
abbrev pub held_by : {N : Type 0} → (List ℕ → N) → ℕ → List Node → List N
held_by named width nodes = map (λ (n : Node). named (take width n.words)) (reverse nodes)

-- what a layer means that holds these copies, over a space with meaning m
abbrev pub copied : {N C : Type 0} → (List ℕ → N) → Meaning N C → Copies → Meaning N C
copied named m k = layered m k.capacity (held_by named m.width k.nodes.items)

-- every copy is of a node of the tree
abbrev pub CopiesProper : {N C : Type 0} → (List ℕ → N) → Meaning N C → Copies → Type 0
CopiesProper named m k = AllProper m.tree (held_by named m.width k.nodes.items)

-- one copy more, of the current node
abbrev pub CopiedMore : {N C : Type 0} → Meaning N C → Copies → Copies → Type 0
CopiedMore m old new = (x : Node) × (take m.width x.words ≡ words_now m) × (new.nodes.items ≡ old.nodes.items ++ x ∷ [])
