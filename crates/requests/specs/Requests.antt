use Rattle.std.specs.Prelude.{◌≡◌, ℕ, List, Some, None, Ok, Err, vec_items, Option, Result}
use Rattle.scripts.specs.Lines.{FirstUnknown, Script}
use Rattle.scripts.specs.Numbers.{capped, value}
use Rattle.scripts.specs.Stacks.{stack_of}
use Rattle.stacks.specs.declared.request.Request.{Request}
use Rattle.scripts.specs.declared.script.ScriptError.{ScriptError}
use Rattle.scripts.specs.declared.script.ScriptError.TheVariants as script
use Rattle.requests.specs.declared.Unread.{Unread}
use Rattle.requests.specs.declared.Unread.TheVariants.{Stack, Number, Line, Memory}

-- the number that a text says, at most 1,000,000,000,000
abbrev pub number_of : List ℕ → Option ℕ
number_of text = capped 1000000000000 (value text)

-- it says something
abbrev pub Says : {A : Type 0} → Option A → Type 0
Says {A} o = (x : A) × (o ≡ Some x)

-- why a request cannot be read whose script is refused
abbrev pub unread_script : ScriptError → Unread
unread_script (script.Line k) = Line k
unread_script script.Memory = Memory

-- The request that three texts make; or which of them, in this order, is none, and of a script the first line that is
-- no call.
abbrev pub Read : List ℕ → List ℕ → List ℕ → Result Request Unread → Type 0
Read stack number script (Ok q) = (stack_of stack ≡ Some q.stack) × (number_of number ≡ Some q.allowance) × Script script (vec_items q.calls)
Read stack number script (Err Stack) = stack_of stack ≡ None
Read stack number script (Err Number) = Says (stack_of stack) × (number_of number ≡ None)
Read stack number script (Err (Line k)) = Says (stack_of stack) × Says (number_of number) × FirstUnknown script k
Read stack number script (Err Memory) = Unit {0}
