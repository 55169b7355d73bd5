use Rattle.std.proofs.Common.{◌≡◌, ℕ, Bool, true, false, List, [], ◌∷◌, Some, None, Option, sym}
use Rattle.std.specs.Bool.{then_some}
use Rattle.stacks.specs.declared.kinds.Base.{Base}
use Rattle.stacks.specs.declared.kinds.Base.TheVariants.{Bare}
use Rattle.stacks.specs.declared.kinds.Above.{Above}
use Rattle.scripts.specs.declared.stack.Part.TheVariants.{Layer, Ground}
use Rattle.stacks.specs.declared.kinds.Stack.{Stack}
use Rattle.scripts.specs.Stacks.{part_of, with_layer, ends, stack_on, stack_at, stack_under}

-- a stack by its next part
module _ (above : Above) (parts ps : List (List ℕ)) (part : List ℕ) (s : Option Stack) (e : stack_under above parts ≡ s) (f : parts ≡ part ∷ ps) where
  opened : stack_at above (part_of part) ps (λ a. stack_under a ps) ≡ s
  unfolding stack_under
  opened = rw f at e

  pub no_part : part_of part ≡ None → None ≡ s
  no_part g = rw g at opened

  pub no_layer : (n : ℕ) → part_of part ≡ Some (Layer n) → with_layer above n ≡ None → None ≡ s
  no_layer n g h = rw (g, h) at opened

  pub layered : (n : ℕ) (a : Above) → part_of part ≡ Some (Layer n) → with_layer above n ≡ Some a → stack_under a ps ≡ s
  layered n a g h = rw (g, h) at opened

  pub grounded : (b : Base) (t : Bool) → part_of part ≡ Some (Ground b) → t ≡ ends b ps → then_some t (record { base = b; above = above }) ≡ s
  grounded b true g h = rw (g, sym h) at opened
  grounded b false g h = rw (g, sym h) at opened

-- below the last layer stands a bare base
pub bare_below : (a : Above) (ps : List (List ℕ)) (s : Option Stack) → ps ≡ [] → stack_under a ps ≡ s → stack_on a Bare ≡ s
unfolding stack_under
bare_below a ps s f e = rw f at e
