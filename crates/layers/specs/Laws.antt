use Rattle.std.specs.Prelude.{ℕ, Bool, List}
use Rattle.space.specs.Meaning.{Meaning}
use Rattle.space.specs.Laws.{Lawful}
use Rattle.space.specs.Layers.{layered}
use Rattle.space.proofs.Layers.{lawful_layered}
use Rattle.layers.specs.Moves.{Keeps}

-- a layer over a lawful space is lawful
pub lawful_over : {N C : Type 0} (m : Meaning N C) {less : C → C → Bool} (capacity : ℕ) (held : List N) → Lawful m less → Keeps m capacity held → Lawful (layered m capacity held) less
lawful_over m capacity held w k = lawful_layered m capacity held w k.nodes k.few k.room
