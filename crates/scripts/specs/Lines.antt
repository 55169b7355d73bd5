use Rattle.std.specs.Prelude.{◌≡◌, ℕ, ◌+◌, ◌-◌, ◌<◌, ◌≤◌, cond, List, [], ◌∷◌, length, Some, None, codes, Option, slice_index_or, ◌==◌, flat_map}
use Rattle.std.specs.Str.{bytes_eq}
use Rattle.std.specs.List.{slice_split}
use Rattle.std.specs.Option.{option_and_then, option_map}
use Rattle.runs.specs.declared.calls.Call.{Call}
use Rattle.runs.specs.declared.calls.Call.TheVariants.{Status, Bound, Word, Width, Capacity, Allowance, Layer, Held, Commit, Redo, Mark, Restore, Forget, Reset}
use Rattle.scripts.specs.declared.script.ScriptError.{ScriptError}
use Rattle.scripts.specs.declared.script.ScriptError.TheVariants.{Line, Memory}
use Rattle.scripts.specs.Numbers.{capped, value}
use Rattle.scripts.specs.Parts.{words}

-- a call of one word
abbrev pub plain_call : List ℕ → Option Call
plain_call word =
    cond (bytes_eq word (codes "status")) (Some Status)
    (cond (bytes_eq word (codes "bound")) (Some Bound)
    (cond (bytes_eq word (codes "width")) (Some Width)
    (cond (bytes_eq word (codes "capacity")) (Some Capacity)
    (cond (bytes_eq word (codes "allowance")) (Some Allowance)
    (cond (bytes_eq word (codes "layer")) (Some Layer)
    (cond (bytes_eq word (codes "held")) (Some Held)
    (cond (bytes_eq word (codes "mark")) (Some Mark)
    (cond (bytes_eq word (codes "restore")) (Some Restore)
    (cond (bytes_eq word (codes "forget")) (Some Forget)
    (cond (bytes_eq word (codes "reset")) (Some Reset) None))))))))))

-- a call of a word and a number
abbrev pub numbered_call : List ℕ → ℕ → Option Call
numbered_call word n =
    cond (bytes_eq word (codes "word")) (Some (Word n))
    (cond (bytes_eq word (codes "commit")) (Some (Commit n))
    (cond (bytes_eq word (codes "redo")) (Some (Redo n)) None))

-- what the words of a line say: no call, one, or, as `None`, neither of these
abbrev pub reading_of_words : List (List ℕ) → Option (Option Call)
reading_of_words [] = Some None
reading_of_words (word ∷ []) = option_map Some (plain_call word)
reading_of_words (word ∷ number ∷ []) = option_map Some (option_and_then (numbered_call word) (capped 255 (value number)))
reading_of_words (word ∷ number ∷ more ∷ rest) = None

-- a line is empty, a call, or neither; a number above 255 counts as 255
unfoldable pub reading_of : List ℕ → Option (Option Call)
reading_of line = reading_of_words (words line)

-- the call of a line, if it is one
abbrev pub call_in : Option (Option Call) → List Call
call_in (Some (Some call)) = call ∷ []
call_in (Some None) = []
call_in None = []

-- the calls of some lines, in order
abbrev pub calls_in : List (List ℕ) → List Call
calls_in lines = flat_map (λ line. call_in (reading_of line)) lines

-- the lines of a script
abbrev pub lines_of : List ℕ → List (List ℕ)
lines_of text = slice_split (λ b. b == 10) text

-- line k, counted from 0, is empty or a call
abbrev pub Known : List ℕ → ℕ → Type 0
Known text k = reading_of (slice_index_or (lines_of text) k []) ≡ None → ⊥

-- each line is empty or a call, and these are the calls
pub record Script (text : List ℕ) (calls : List Call) : Type 0 where
  pub known : (k : ℕ) → k < length (lines_of text) → Known text k
  pub same : calls ≡ calls_in (lines_of text)

-- line k, counted from 1, is the first that is neither
pub record FirstUnknown (text : List ℕ) (k : ℕ) : Type 0 where
  pub some : 0 < k
  pub inside : k ≤ length (lines_of text)
  pub before : (j : ℕ) → j + 1 < k → Known text j
  pub here : reading_of (slice_index_or (lines_of text) (k - 1) []) ≡ None

-- why a script is refused; without memory nothing is said of it
abbrev pub Refused : List ℕ → ScriptError → Type 0
Refused text (Line k) = FirstUnknown text k
Refused text Memory = Unit {0}
