use Rattle.std.specs.Prelude.{min}
use Rattle.space.specs.Meaning.{Meaning}
use Rattle.space.specs.Layers.{made_over}
use Rattle.stacks.specs.declared.kinds.Base.{Base}
use Rattle.stacks.specs.declared.kinds.Base.TheVariants.{Bare, Copying, Trailing}
use Rattle.stacks.specs.declared.kinds.Above.{Above}
use Rattle.stacks.specs.declared.kinds.Above.TheVariants.{Nothing, One, Two, Three}
use Rattle.stacks.specs.declared.kinds.Stack.{Stack}

-- What a stack means that is made over a space with meaning m.

-- the base: the space itself, or a copying or trailing layer, whose capacity is at most 32
abbrev pub base_over : {N C : Type 0} → Base → Meaning N C → Meaning N C
base_over Bare m = m
base_over (Copying capacity) m = made_over m (min capacity 32)
base_over (Trailing capacity) m = made_over m (min capacity 32)

-- the recomputing layers, whatever their gaps
abbrev pub above_over : {N C : Type 0} → Above → Meaning N C → Meaning N C
above_over Nothing m = m
above_over (One a) m = made_over m 32
above_over (Two a b) m = made_over (made_over m 32) 32
above_over (Three a b c) m = made_over (made_over (made_over m 32) 32) 32

abbrev pub stack_over : {N C : Type 0} → Stack → Meaning N C → Meaning N C
stack_over s m = above_over s.above (base_over s.base m)
