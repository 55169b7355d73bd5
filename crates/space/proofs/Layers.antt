use Rattle.std.proofs.Common.{◌≡◌, ℕ, ◌+◌, ◌≤◌, Bool, true, false, cond, List, length, refl}
use native.Mathlib.Nat.{min-le_right}
use Rattle.space.specs.Meaning.{Meaning, spent, moved}
use Rattle.space.specs.Laws.{Lawful, AllProper}
use Rattle.space.specs.Calls.{done, commit_answer, committed, redo_answer, redone}
use Rattle.space.specs.Layers.{layered}

module _ {N C : Type 0} where
  -- a layer over a lawful space is lawful, if the nodes that it holds are nodes and not too many
  pub lawful_layered : (m : Meaning N C) {less : C → C → Bool} (capacity : ℕ) (held : List N) → Lawful m less
      → AllProper m.tree held → capacity ≤ 32 → length held ≤ capacity → Lawful (layered m capacity held) less
  lawful_layered m capacity held w nodes most room = record {
    orderly = w.orderly;
    priced = w.priced;
    current = w.current;
    nodes = nodes;
    low = w.low;
    high = w.high;
    capacity = most;
    held = room;
    allowance = w.allowance;
    layer = min-le_right (m.layer + 1) 255;
  }

  cond_layered : (b : Bool) (m n : Meaning N C) (capacity : ℕ) (held : List N) → cond b (layered n capacity held) (layered m capacity held) ≡ layered (cond b n m) capacity held
  cond_layered true m n capacity held = refl
  cond_layered false m n capacity held = refl

  -- a step of the layer is a step below
  pub committed_layered : (m : Meaning N C) (a capacity : ℕ) (held : List N) → committed (layered m capacity held) a ≡ layered (committed m a) capacity held
  committed_layered m a capacity held = cond_layered (done (commit_answer m a)) m (spent (moved m a)) capacity held

  pub redone_layered : (m : Meaning N C) (a capacity : ℕ) (held : List N) → redone (layered m capacity held) a ≡ layered (redone m a) capacity held
  redone_layered m a capacity held = cond_layered (done (redo_answer m a)) m (moved m a) capacity held
