use Rattle.std.specs.Prelude.{◌≡◌, ℕ, ◌-◌, ◌<◌, ◌≤◌, Bool, true, cond, List, [], ◌++◌, length, replicate, Some, None, Ok, Err, Option, Result, nat_le}
use Rattle.std.proofs.Props.{props}
use Rattle.nodes.specs.Choosing.{status}
use Rattle.trees.specs.Trees.{Orderly}
use Rattle.trees.specs.declared.Status.{Status}
use Rattle.trees.specs.declared.Status.TheVariants.{Failed, Solved, Choice}
use Rattle.propagation.specs.Networks.{Network, Supported}
use Rattle.problems.specs.Problems.{tree_of, values}
use Rattle.space.specs.declared.refusal.Refusal.{Refusal}
use Rattle.space.specs.declared.refusal.Refusal.TheVariants.{NotChoice, Alternative}
use Rattle.space.specs.Meaning.{Meaning}

-- the most commits that any space allows
abbrev pub limit : ℕ
limit = 1000000000000

-- a bare space over constraints with start words, bounds and costs: it holds nothing, and is layer 0 and names it
abbrev pub bare_meaning : {C : Type 0} → Network → List ℕ → (List ℕ → C) → (List ℕ → C) → List ℕ → ℕ → Meaning (List ℕ) C
bare_meaning p start bound cost node allowance = record {
  tree = tree_of p start bound;
  cost = λ n. cost (values p.width n);
  width = p.width;
  current = node;
  held = [];
  capacity = 0;
  allowance = allowance;
  layer = 0;
  mark_layer = 0;
  commit_layer = 0;
}

-- the node that has these words: a node has thirty-two, and those not in use are 0
abbrev pub padded : List ℕ → List ℕ
padded ws = ws ++ replicate (32 - length ws) 0

-- what is remembered of a node is true of it: its status, and that every constraint supports every value of it
abbrev pub Remembers : Option Status → Network → List ℕ → Type 0
Remembers None p n = Unit {0}
Remembers (Some s) p n = (s ≡ status p.width n) × Supported p n

-- The parts of a bare space agree: its problem has a tree in order, of which it keeps the root; its current node is a
-- node of it; it allows no more commits than any space may; and every constraint supports every value of the root, and
-- of the current node if its status is remembered.
pub record Agrees {C : Type 0} (p : Network) (m : Meaning (List ℕ) C) (less : C → C → Bool) (root : List ℕ) (known : Option Status) : Type 0 where
  pub orderly : Orderly m.tree less m.width
  pub priced : (n : List ℕ) → m.tree.proper n ≡ true → m.tree.status n ≡ Solved → m.tree.bound n ≡ m.cost n
  pub low : 0 < m.width
  pub high : m.width ≤ 32
  pub kept : root ≡ m.tree.root
  pub here : m.tree.proper m.current ≡ true
  pub remembered : Remembers known p m.current
  pub most : m.allowance ≤ limit
  pub closed : Supported p root

remembers_prop : (known : Option Status) (p : Network) (n : List ℕ) → IsProp (Remembers known p n)
remembers_prop None p n = hlevel props
remembers_prop (Some s) p n = hlevel props

-- that they agree is a fact, where the equality of costs is one
pub agrees_prop : {C : Type 0} → IsSet C → (p : Network) (m : Meaning (List ℕ) C) (less : C → C → Bool) (root : List ℕ) (known : Option Status) → IsProp (Agrees p m less root known)
agrees_prop set p m less root known = hlevel (props, set, remembers_prop)

-- 12: not at a choice node; then 13: an alternative above 1
abbrev pub choice_answer : Status → ℕ → Result (ℕ × ℕ) Refusal
choice_answer Failed a = Err NotChoice
choice_answer Solved a = Err NotChoice
choice_answer (Choice c) a = cond (nat_le a 1) (Ok c) (Err Alternative)
