use Rattle.std.specs.Prelude.{ℕ, Bool, true, false, cond, ◌&&◌, List, [], ◌∷◌, Some, None, codes, Option, ◌==◌}
use Rattle.std.specs.Str.{bytes_eq}
use Rattle.std.specs.List.{slice_split}
use Rattle.std.specs.Option.{option_and_then}
use Rattle.stacks.specs.declared.kinds.Base.{Base}
use Rattle.stacks.specs.declared.kinds.Base.TheVariants.{Bare, Copying, Trailing}
use Rattle.stacks.specs.declared.kinds.Above.{Above}
use Rattle.stacks.specs.declared.kinds.Above.TheVariants.{Nothing, One, Two, Three}
use Rattle.scripts.specs.declared.stack.Part.{Part}
use Rattle.scripts.specs.declared.stack.Part.TheVariants.{Layer, Ground}
use Rattle.stacks.specs.declared.kinds.Stack.{Stack}
use Rattle.scripts.specs.Numbers.{capped, value}

-- a name and its number: a recomputing layer with its gap, or a base with its capacity
abbrev pub numbered_part : List ℕ → ℕ → Option Part
numbered_part name n =
    cond (bytes_eq name (codes "recomputing")) (Some (Layer n))
    (cond (bytes_eq name (codes "copying")) (Some (Ground (Copying n)))
    (cond (bytes_eq name (codes "trailing")) (Some (Ground (Trailing n))) None))

-- a part of one word
abbrev pub plain_part : List ℕ → Option Part
plain_part name = cond (bytes_eq name (codes "bare")) (Some (Ground Bare)) None

-- the fields of a part: one word, or a name and a number
abbrev pub part_of_fields : List (List ℕ) → Option Part
part_of_fields [] = None
part_of_fields (name ∷ []) = plain_part name
part_of_fields (name ∷ number ∷ []) = option_and_then (numbered_part name) (capped 255 (value number))
part_of_fields (name ∷ number ∷ more ∷ rest) = None

-- one part of a stack; a number above 255 counts as 255
unfoldable pub part_of : List ℕ → Option Part
part_of text = part_of_fields (slice_split (λ b. b == 58) text)

-- one recomputing layer more, under those above; at most three
abbrev pub with_layer : Above → ℕ → Option Above
with_layer Nothing n = Some (One n)
with_layer (One a) n = Some (Two a n)
with_layer (Two a b) n = Some (Three a b n)
with_layer (Three a b c) n = None

-- a base that copies or trails stands on a bare one
abbrev pub stands_on_bare : Base → Bool
stands_on_bare Bare = false
stands_on_bare (Copying n) = true
stands_on_bare (Trailing n) = true

-- what may follow a base: nothing, or the bare one that it stands on
abbrev pub ends : Base → List (List ℕ) → Bool
ends b [] = true
ends b (part ∷ []) = bytes_eq part (codes "bare") && stands_on_bare b
ends b (part ∷ more ∷ rest) = false

-- the stack of a base under the layers above
abbrev pub stack_on : Above → Base → Option Stack
stack_on above base = Some (record { base = base; above = above })

-- the stack of the layers above and a part under them, `below` being what the rest makes of the layers with this one
abbrev pub stack_at : Above → Option Part → List (List ℕ) → (Above → Option Stack) → Option Stack
stack_at above None rest below = None
stack_at above (Some (Layer n)) rest below = option_and_then below (with_layer above n)
stack_at above (Some (Ground base)) rest below = cond (ends base rest) (stack_on above base) None

-- the stack of the layers above and the parts under them; without a base it is bare
unfoldable pub stack_under : Above → List (List ℕ) → Option Stack
stack_under above [] = stack_on above Bare
stack_under above (part ∷ rest) = stack_at above (part_of part) rest (λ more. stack_under more rest)

-- the stack that a text writes: its parts between slashes, the topmost first
abbrev pub stack_of : List ℕ → Option Stack
stack_of text = stack_under Nothing (slice_split (λ b. b == 47) text)
