use Rattle.std.specs.Prelude.{◌≡◌, ℕ, ◌+◌, ◌-◌, ◌*◌, ◌%◌, ◌≤◌, true, cond, List, [], ◌∷◌, length, reverse, Ok, Err, Result, ◌==◌, nat_le}
use Rattle.std.proofs.Props.{props}
use Rattle.trees.specs.Trees.{Tree}
use Rattle.trees.specs.declared.Status.{Status}
use Rattle.trees.specs.declared.Status.TheVariants.{Failed, Solved, Choice}
use Rattle.space.specs.declared.refusal.Refusal.{Refusal}
use Rattle.space.specs.declared.refusal.Refusal.TheVariants.{NotChoice, Alternative}
use Rattle.space.specs.Meaning.{Meaning, is_choice}
use Rattle.space.specs.Laws.{AllProper}
use Rattle.space.specs.Facts.{all_proper_prop}
use Rattle.staircase.specs.declared.stair.Stair.{Stair}

-- the foot of the staircase: ten stairs to climb, and no step taken
abbrev pub foot : Stair
foot = record { height = 10; steps = 0 }

-- The top is solved. Eight steps are the most, so a stair below the top fails after them. Elsewhere a climber chooses.
abbrev pub stair_status : Stair → Status
stair_status n = cond (n.height == 0) Solved (cond (nat_le 8 n.steps) Failed (Choice (0, n.height % 2)))

-- alternative 0 climbs one stair, alternative 1 two, if there are two
abbrev pub climbed : Stair → ℕ → Stair
climbed n a = record { height = n.height - (a + 1); steps = n.steps + 1 }

-- The nodes are the stairs with the steps taken so far. A word tells no more than whether the height is even or odd.
-- A step costs 3, and each stair that is left costs 1 at least.
abbrev pub staircase : Tree Stair ℕ
staircase = record {
  root = foot;
  proper = λ n. nat_le (n.height + n.steps) 10;
  words = λ n. (1 + n.height % 2) ∷ [];
  status = stair_status;
  step = climbed;
  bound = λ n. 3 * n.steps + n.height;
  rest = λ n. n.height;
  reach = λ n. n.height;
}

-- what a climb answers: 12 where there is no choice, 13 where the alternative is above 1
abbrev pub climb_answer : Stair → ℕ → Result Stair Refusal
climb_answer n a = cond (is_choice (stair_status n)) (cond (nat_le a 1) (Ok (climbed n a)) (Err Alternative)) (Err NotChoice)

-- what a staircase means: it holds up to two stairs itself, of which the newest is the last in the list
abbrev pub standing : Stair → List Stair → ℕ → Meaning Stair ℕ
standing current held allowance = record {
  tree = staircase;
  cost = λ n. 3 * n.steps;
  width = 1;
  current = current;
  held = reverse held;
  capacity = 2;
  allowance = allowance;
  layer = 0;
  mark_layer = 0;
  commit_layer = 0;
}

-- the current stair and the held ones are on the staircase, and the allowance is within its limit
abbrev pub Stands : Stair → List Stair → ℕ → Type 0
Stands current held allowance = (staircase.proper current ≡ true) × AllProper staircase (reverse held) × (length held ≤ 2) × (allowance ≤ 1000000000000)

pub stands_prop : (current : Stair) (held : List Stair) (allowance : ℕ) → IsProp (Stands current held allowance)
stands_prop current held allowance = hlevel (props, all_proper_prop)
