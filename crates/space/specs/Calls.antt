use Rattle.std.specs.Prelude.{◌≡◌, ℕ, ◌+◌, ◌<◌, ◌≤◌, Bool, true, false, cond, [], ◌∷◌, length, Some, None, Ok, Err, Option, Result, ◌==◌, nat_le, nat_lt, slice_index, slice_set}
use Rattle.space.specs.declared.refusal.Refusal.{Refusal}
use Rattle.space.specs.declared.refusal.Refusal.TheVariants.{Word, NotChoice, Alternative, Allowance, Bound, Capacity, NothingHeld}
use Rattle.space.specs.Meaning.{Meaning, status_now, words_now, is_choice, is_failed, placed, spent, moved}

-- ---- refusals

-- the number of a refusal
abbrev pub number : Refusal → ℕ
number Word = 11
number NotChoice = 12
number Alternative = 13
number (Allowance l) = 14
number Bound = 15
number (Capacity l) = 16
number NothingHeld = 17

-- the layer that it names, if it names one
abbrev pub named_layer : Refusal → Option ℕ
named_layer Word = None
named_layer NotChoice = None
named_layer Alternative = None
named_layer (Allowance l) = Some l
named_layer Bound = None
named_layer (Capacity l) = Some l
named_layer NothingHeld = None

-- a call that is answered by done or by a refusal was done
abbrev pub done : Result (Unit {0}) Refusal → Bool
done (Ok u) = true
done (Err e) = false

-- ---- what each call answers, and the plain space after it

-- 11: the word number is not below the width
abbrev pub word_answer : {N C : Type 0} → Meaning N C → ℕ → Result ℕ Refusal
word_answer m i = cond (nat_lt i m.width) (Ok (slice_index (words_now m) i)) (Err Word)

-- 15: a failed node has no bound
abbrev pub bound_answer : {N C : Type 0} → Meaning N C → Result C Refusal
bound_answer m = cond (is_failed (status_now m)) (Err Bound) (Ok (m.tree.bound m.current))

-- 12: not at a choice node; then 13: an alternative above 1; then 14: no commit is left
abbrev pub commit_answer : {N C : Type 0} → Meaning N C → ℕ → Result (Unit {0}) Refusal
commit_answer m a =
    cond (is_choice (status_now m))
    (cond (nat_le a 1)
    (cond (m.allowance == 0) (Err (Allowance m.commit_layer)) (Ok tt))
    (Err Alternative))
    (Err NotChoice)

abbrev pub committed : {N C : Type 0} → Meaning N C → ℕ → Meaning N C
committed m a = cond (done (commit_answer m a)) (spent (moved m a)) m

-- the same without a look at the allowance
abbrev pub redo_answer : {N C : Type 0} → Meaning N C → ℕ → Result (Unit {0}) Refusal
redo_answer m a =
    cond (is_choice (status_now m))
    (cond (nat_le a 1) (Ok tt) (Err Alternative))
    (Err NotChoice)

abbrev pub redone : {N C : Type 0} → Meaning N C → ℕ → Meaning N C
redone m a = cond (done (redo_answer m a)) (moved m a) m

-- 16: as many nodes are held as the space can hold
abbrev pub mark_answer : {N C : Type 0} → Meaning N C → Result (Unit {0}) Refusal
mark_answer m = cond (nat_lt (length m.held) m.capacity) (Ok tt) (Err (Capacity m.mark_layer))

-- the current node is held, as the newest
abbrev pub marked : {N C : Type 0} → Meaning N C → Meaning N C
marked m = cond (done (mark_answer m)) (placed m m.current (m.current ∷ m.held)) m

-- 17: nothing is held
abbrev pub turn_answer : {N C : Type 0} → Meaning N C → Result (Unit {0}) Refusal
turn_answer m = elim m.held [ [] ↦ Err NothingHeld | n ∷ h ↦ Ok tt ]

-- the newest held node is current, and stays held
abbrev pub restored : {N C : Type 0} → Meaning N C → Meaning N C
restored m = elim m.held [ [] ↦ m | n ∷ h ↦ placed m n (n ∷ h) ]

-- the newest held node is held no more
abbrev pub forgotten : {N C : Type 0} → Meaning N C → Meaning N C
forgotten m = elim m.held [ [] ↦ m | n ∷ h ↦ placed m m.current h ]

-- ---- the same as statements: r is the answer, and n the plain space after the call

abbrev pub Commits : {N C : Type 0} → Meaning N C → ℕ → Result (Unit {0}) Refusal → Meaning N C → Type 0
Commits m a r n = (r ≡ commit_answer m a) × (n ≡ committed m a)

abbrev pub Redoes : {N C : Type 0} → Meaning N C → ℕ → Result (Unit {0}) Refusal → Meaning N C → Type 0
Redoes m a r n = (r ≡ redo_answer m a) × (n ≡ redone m a)

abbrev pub Marks : {N C : Type 0} → Meaning N C → Result (Unit {0}) Refusal → Meaning N C → Type 0
Marks m r n = (r ≡ mark_answer m) × (n ≡ marked m)

abbrev pub Restores : {N C : Type 0} → Meaning N C → Result (Unit {0}) Refusal → Meaning N C → Type 0
Restores m r n = (r ≡ turn_answer m) × (n ≡ restored m)

abbrev pub Forgets : {N C : Type 0} → Meaning N C → Result (Unit {0}) Refusal → Meaning N C → Type 0
Forgets m r n = (r ≡ turn_answer m) × (n ≡ forgotten m)

-- a commit that is done lowers the allowance, and a refused one does not raise it
abbrev pub Spends : {N C : Type 0} → Meaning N C → Result (Unit {0}) Refusal → Meaning N C → Type 0
Spends m r n = n.allowance + cond (done r) 1 0 ≤ m.allowance

-- ---- loading: word i of the current node becomes w

-- 11: the word number is not below the width
abbrev pub set_answer : {N C : Type 0} → Meaning N C → ℕ → Result (Unit {0}) Refusal
set_answer m i = cond (nat_lt i m.width) (Ok tt) (Err Word)

-- Only the current node changes. It is the one node that has these words.
pub record Loaded {N C : Type 0} (m : Meaning N C) (i w : ℕ) (n : Meaning N C) : Type 0 where
  pub place : n ≡ placed m n.current m.held
  pub words : words_now n ≡ slice_set (words_now m) i w
  pub only : (p : N) → m.tree.proper p ≡ true → m.tree.words p ≡ slice_set (words_now m) i w → p ≡ n.current

abbrev pub Sets : {N C : Type 0} → Meaning N C → ℕ → ℕ → Result (Unit {0}) Refusal → Meaning N C → Type 0
Sets m i w r n = (r ≡ set_answer m i) × ((i < m.width → Loaded m i w n) × (m.width ≤ i → n ≡ m))
