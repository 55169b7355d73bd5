use Rattle.std.specs.Prelude.{◌≡◌, ℕ, Bool, List, [], ◌∷◌, ◌++◌, map, reverse, length, take}
use Rattle.std.proofs.Common.{ap, ◌∙◌, arith}
use Rattle.std.proofs.lemmas.List.{reverse-append, length-map, length-reverse}
use Rattle.nodes.specs.declared.node.Node.{Node}
use Rattle.space.specs.Meaning.{Meaning}
use Rattle.space.specs.Laws.{Lawful}
use Rattle.layers.specs.Moves.{Keeps}
use Rattle.layers.specs.Laws as laws
use Rattle.space.specs.Facts.{all_proper_prop}
use Rattle.copying.specs.declared.copies.Copies.{Copies}
use Rattle.copying.specs.Copied.{held_by, copied, CopiesProper}

-- as many nodes are held as there are copies
pub held_count : {N : Type 0} (named : List ℕ → N) (width : ℕ) (nodes : List Node) → length (held_by named width nodes) ≡ length nodes
held_count named width nodes = length-map (reverse nodes) _ ∙ length-reverse nodes

-- one more copy is one more held node, the newest
pub held_more : {N : Type 0} (named : List ℕ → N) (width : ℕ) (nodes : List Node) (x : Node) → held_by named width (nodes ++ x ∷ []) ≡ named (take width x.words) ∷ held_by named width nodes
held_more named width nodes x = ap (map (λ (n : Node). named (take width n.words))) (reverse-append nodes (x ∷ []))

-- that the copies are of nodes of the tree is a fact
pub copies_prop : {N C : Type 0} (named : List ℕ → N) (m : Meaning N C) (k : Copies) → IsProp (CopiesProper named m k)
copies_prop named m k = all_proper_prop m.tree _

-- no more are held than can be
pub copies_keep : {N C : Type 0} (named : List ℕ → N) (m : Meaning N C) (k : Copies) → CopiesProper named m k → Keeps m k.capacity (held_by named m.width k.nodes.items)
copies_keep named m k p = record {
  nodes = p;
  few = k.bounds.1;
  room = omega (arith, held_count named m.width k.nodes.items, k.bounds.0);
}

-- the layer over a lawful space is lawful
pub lawful_over : {N C : Type 0} (named : List ℕ → N) (m : Meaning N C) {less : C → C → Bool} (k : Copies) → Lawful m less → CopiesProper named m k → Lawful (copied named m k) less
lawful_over named m k w p = laws.lawful_over m k.capacity _ w (copies_keep named m k p)
