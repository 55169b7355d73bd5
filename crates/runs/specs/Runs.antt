use Rattle.std.specs.Prelude.{◌≡◌, List, [], ◌∷◌, length, Ok, Err, Result}
use Rattle.space.specs.declared.refusal.Refusal.{Refusal}
use Rattle.space.specs.Meaning.{Meaning, fresh, status_now}
use Rattle.space.specs.Calls.{bound_answer, commit_answer, committed, forgotten, mark_answer, marked, redo_answer, redone, restored, turn_answer, word_answer}
use Rattle.runs.specs.declared.calls.Call.{Call}
use Rattle.runs.specs.declared.calls.Call.TheVariants.{Status, Bound, Word, Width, Capacity, Allowance, Layer, Held, Commit, Redo, Mark, Restore, Forget, Reset}
use Rattle.runs.specs.declared.calls.Answer.{Answer}
use Rattle.runs.specs.declared.calls.Answer.TheVariants.{Done, Node, Cost, Number, Refused}

-- the answer made of what was given, or the refusal
abbrev pub told : {T C : Type 0} → (T → Answer C) → Result T Refusal → Answer C
told f (Ok x) = f x
told f (Err e) = Refused e

-- what a plain space answers to a call
abbrev pub reply : {N C : Type 0} → Meaning N C → Call → Answer C
reply m Status = Node (status_now m)
reply m Bound = told Cost (bound_answer m)
reply m (Word i) = told Number (word_answer m i)
reply m Width = Number m.width
reply m Capacity = Number m.capacity
reply m Allowance = Number m.allowance
reply m Layer = Number m.layer
reply m Held = Number (length m.held)
reply m (Commit a) = told (λ _. Done) (commit_answer m a)
reply m (Redo a) = told (λ _. Done) (redo_answer m a)
reply m Mark = told (λ _. Done) (mark_answer m)
reply m Restore = told (λ _. Done) (turn_answer m)
reply m Forget = told (λ _. Done) (turn_answer m)
reply m Reset = Done

-- the plain space after the call; a refused one leaves it as it was
abbrev pub after : {N C : Type 0} → Meaning N C → Call → Meaning N C
after m Status = m
after m Bound = m
after m (Word i) = m
after m Width = m
after m Capacity = m
after m Allowance = m
after m Layer = m
after m Held = m
after m (Commit a) = committed m a
after m (Redo a) = redone m a
after m Mark = marked m
after m Restore = restored m
after m Forget = forgotten m
after m Reset = fresh m

-- what it answers to a list of calls, one after the other, and what it is after them
abbrev pub replies : {N C : Type 0} → Meaning N C → List Call → List (Answer C)
replies m [] = []
replies m (c ∷ cs) = reply m c ∷ replies (after m c) cs

abbrev pub run : {N C : Type 0} → Meaning N C → List Call → Meaning N C
run m [] = m
run m (c ∷ cs) = run (after m c) cs

-- The law over runs: to these calls, refused ones counted in, a space that meant the plain space m gave just the
-- answers that m gives, and then means what m is after them.
pub record AnswersAsPlain {N C : Type 0} (m : Meaning N C) (calls : List Call) (answers : List (Answer C)) (n : Meaning N C) : Type 0 where
  pub same : answers ≡ replies m calls
  pub left : n ≡ run m calls
