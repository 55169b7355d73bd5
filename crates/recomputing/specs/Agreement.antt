use Rattle.std.specs.Prelude.{◌≡◌, [], ◌∷◌, length}
use Rattle.space.specs.Meaning.{Meaning, placed, fresh}
use Rattle.traces.specs.Lines.{Line, top}
use Rattle.recomputing.specs.Paths.{follow, Legal, nodes, Descends}

-- The layer and the space below agree: the path leads to the current node, and the space below holds the checkpoints,
-- none of them deeper than the newest held node.
pub record Agrees {N C : Type 0} (m : Meaning N C) (l : Line) : Type 0 where
  pub legal : Legal m.tree m.tree.root l.path
  pub here : m.current ≡ follow m.tree m.tree.root l.path
  pub depths : Descends (length l.path) l.depths
  pub checks : Descends (top l.depths) l.checks
  pub below : m.held ≡ nodes m.tree l.path l.checks

-- the same, but that checkpoints may be deeper than the newest held node
pub record Loose {N C : Type 0} (m : Meaning N C) (l : Line) : Type 0 where
  pub legal : Legal m.tree m.tree.root l.path
  pub here : m.current ≡ follow m.tree m.tree.root l.path
  pub depths : Descends (length l.path) l.depths
  pub checks : Descends (length l.path) l.checks
  pub below : m.held ≡ nodes m.tree l.path l.checks

-- the newest held node current, or the root if none is held
abbrev pub gone_back : {N C : Type 0} → Meaning N C → Meaning N C
gone_back m = elim m.held [ [] ↦ fresh m | n ∷ h ↦ placed m n (n ∷ h) ]
