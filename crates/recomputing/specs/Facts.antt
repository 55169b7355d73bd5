use Rattle.std.specs.Prelude.{ℕ, List, [], ◌∷◌}
use Rattle.std.proofs.Common.{sym, ap, ◌∙◌}
use Rattle.std.proofs.Props.{props}
use Rattle.std.specs.Coded.{×_prop, Unit-prop, le_prop, Coded-set}
use mathlib.Core.HLevel.{×₃_prop, Σ_prop_path}
use Rattle.trees.specs.Trees.{Tree, Chooses}
use Rattle.trees.specs.contracts.Status as status
use Rattle.trees.specs.declared.Status.{Status}
use Rattle.trees.specs.declared.Status.TheVariants.{Failed, Solved, Choice}
use Rattle.space.specs.Meaning.{Meaning}
use Rattle.traces.specs.Lines.{Line}
use Rattle.recomputing.specs.Paths.{Legal, Descends}
use Rattle.recomputing.specs.Agreement.{Agrees}

-- That a line agrees with a space is a fact: there is no second proof of it.

Status-set : IsSet Status
Status-set = Coded-set (status.the_row).coded

the_choice : Status → ℕ × ℕ
the_choice Failed = (0, 0)
the_choice Solved = (0, 0)
the_choice (Choice c) = c

Descends-prop : (b : ℕ) (ds : List ℕ) → IsProp (Descends b ds)
Descends-prop b [] = Unit-prop
Descends-prop b (d ∷ ds) = ×_prop le_prop (Descends-prop d ds)

module _ {N C : Type 0} where
  -- a node has at most one choice
  Chooses-prop : (t : Tree N C) (n : N) → IsProp (Chooses t n)
  unfolding the_choice
  Chooses-prop t n u v = Σ_prop_path (λ c. Status-set (t.status n) (Choice c)) (ap the_choice (sym u.1 ∙ v.1))

  Legal-prop : (t : Tree N C) (n : N) (p : List ℕ) → IsProp (Legal t n p)
  Legal-prop t n [] = Unit-prop
  Legal-prop t n (a ∷ p) = ×₃_prop (Chooses-prop t n) le_prop (Legal-prop t (t.step n a) p)

  pub Agrees-prop : IsSet N → (m : Meaning N C) (l : Line) → IsProp (Agrees m l)
  Agrees-prop set m l = Prim.hlevel (Legal-prop, Descends-prop, props)
