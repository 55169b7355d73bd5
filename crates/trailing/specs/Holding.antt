use Rattle.std.specs.Prelude.{◌≡◌, ℕ, Bool, List, length}
use Rattle.std.proofs.Common.{◌∙◌, arith}
use Rattle.std.specs.Coded.{Coded-set, coded_list, coded_ℕ, le_prop}
use Rattle.std.proofs.lemmas.List.{length-map}
use Rattle.space.specs.Meaning.{Meaning, words_now}
use Rattle.space.specs.Laws.{Lawful}
use Rattle.layers.specs.Moves.{Keeps}
use Rattle.layers.specs.Laws as laws
use Rattle.space.specs.Facts.{all_proper_prop}
use Rattle.trails.specs.declared.entry.Entry.{Entry}
use Rattle.trails.specs.Entries.{before}
use Rattle.trails.proofs.Undoing.{length_before}
use Rattle.trailing.specs.Trailed.{held_by, trailed, Agrees}

-- as many nodes are held as there are marks
pub held_count : {N : Type 0} (named : List ℕ → N) (ss : List (List Entry)) (ws : List ℕ) → length (held_by named ss ws) ≡ length ss
held_count named ss ws = length-map (before ss ws) _ ∙ length_before ss ws

-- that layer and space agree is a fact
pub agrees_prop : {N C : Type 0} (named : List ℕ → N) (m : Meaning N C) (ss : List (List Entry)) (copy : List ℕ) (most : ℕ) → IsProp (Agrees named m ss copy most)
agrees_prop named m ss copy most a b = λ i. record {
  seen = Coded-set (coded_list coded_ℕ) _ _ a.seen b.seen i;
  nodes = all_proper_prop m.tree _ a.nodes b.nodes i;
  capacity = le_prop a.capacity b.capacity i;
  room = le_prop a.room b.room i;
}

-- no more are held than can be
pub changes_keep : {N C : Type 0} (named : List ℕ → N) (m : Meaning N C) (ss : List (List Entry)) (copy : List ℕ) (most : ℕ) → Agrees named m ss copy most → Keeps m most (held_by named ss (words_now m))
changes_keep named m ss copy most a = record {
  nodes = a.nodes;
  few = a.capacity;
  room = omega (arith, held_count named ss (words_now m), a.room);
}

-- the layer over a lawful space is lawful
pub lawful_over : {N C : Type 0} (named : List ℕ → N) (m : Meaning N C) {less : C → C → Bool} (ss : List (List Entry)) (copy : List ℕ) (most : ℕ)
    → Lawful m less → Agrees named m ss copy most → Lawful (trailed named m ss most) less
lawful_over named m ss copy most w a = laws.lawful_over m most _ w (changes_keep named m ss copy most a)
