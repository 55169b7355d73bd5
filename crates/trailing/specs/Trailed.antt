use Rattle.std.specs.Prelude.{◌≡◌, ℕ, ◌≤◌, List, map, length, take}
use Rattle.space.specs.Meaning.{Meaning, words_now, placed}
use Rattle.space.specs.Laws.{AllProper}
use Rattle.space.specs.Layers.{layered}
use Rattle.trails.specs.declared.entry.Entry.{Entry}
use Rattle.trails.specs.Entries.{before}

-- the nodes that are held when a trail is undone from these words: each is the one that its words name
abbrev pub held_by : {N : Type 0} → (List ℕ → N) → List (List Entry) → List ℕ → List N
held_by named segments ws = map named (before segments ws)

-- what a layer means that holds nodes by a trail, over a space with meaning m
abbrev pub trailed : {N C : Type 0} → (List ℕ → N) → Meaning N C → List (List Entry) → ℕ → Meaning N C
trailed named m segments capacity = layered m capacity (held_by named segments (words_now m))

-- the layer and the space below it agree
pub record Agrees {N C : Type 0} (named : List ℕ → N) (m : Meaning N C) (segments : List (List Entry)) (copy : List ℕ) (most : ℕ) : Type 0 where
  -- the kept copy has the current words
  pub seen : take m.width copy ≡ words_now m
  pub nodes : AllProper m.tree (held_by named segments (words_now m))
  pub capacity : most ≤ 32
  pub room : length segments ≤ most

-- entries are put back: only the current node changes, and the words at each mark stay
pub record PutBack {N C : Type 0} (m n : Meaning N C) (segments left : List (List Entry)) (copy : List ℕ) : Type 0 where
  pub place : n ≡ placed m n.current m.held
  pub marks : before left (words_now n) ≡ before segments (words_now m)
  pub seen : take n.width copy ≡ words_now n
