use Rattle.std.specs.Prelude.{List, [], ◌∷◌}
use Rattle.std.specs.Coded.{×_prop, Unit-prop}
use Rattle.std.proofs.Props.{props}
use Rattle.trees.specs.Trees.{Tree}
use Rattle.space.specs.Laws.{AllProper}

-- That nodes are nodes of a tree is a fact: it holds in one way.
pub all_proper_prop : {N C : Type 0} (t : Tree N C) (ns : List N) → IsProp (AllProper t ns)
all_proper_prop t [] = Unit-prop
all_proper_prop t (n ∷ ns) = ×_prop (hlevel props) (all_proper_prop t ns)
