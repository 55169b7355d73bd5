use Rattle.std.proofs.Common.{◌≡◌, ℕ, ◌+◌, ◌≤◌, Bool, true, false, cond, eqb, ltb, leb, length, Ok, Err, Result, refl, ap, arith}
use Rattle.std.proofs.lemmas.Bool.{le-leb, eqb-false}
use Rattle.std.proofs.lemmas.Bool.Decides.{nat_tests}
use Rattle.trees.specs.declared.Status.{Status}
use Rattle.trees.specs.declared.Status.TheVariants.{Failed, Solved, Choice}
use Rattle.space.specs.declared.refusal.Refusal.{Refusal}
use Rattle.space.specs.declared.refusal.Refusal.TheVariants.{NotChoice, Alternative, Allowance, Capacity}
use Rattle.space.specs.Meaning.{Meaning, is_choice, moved, spent, status_now}
use Rattle.space.specs.Calls.{Commits, Redoes, Spends, done, commit_answer, redo_answer, mark_answer}

-- the test of a choice node tells its choice
pub choice_of : (s : Status) → is_choice s ≡ true → (c : ℕ × ℕ) × (s ≡ Choice c)
choice_of Failed h = let z : ◌≡◌ {A = ℕ} 0 1 = cc in absurd (omega arith)
choice_of Solved h = let z : ◌≡◌ {A = ℕ} 0 1 = cc in absurd (omega arith)
choice_of (Choice c) h = (c, refl)

pub is_chosen : (s : Status) (c : ℕ × ℕ) → s ≡ Choice c → is_choice s ≡ true
is_chosen s c e = ap is_choice e

-- a commit that is done has passed the last test: one is left
third_test : (b d e : Bool) (l : ℕ) → done (cond b (cond d (cond e (Err (Allowance l)) (Ok tt)) (Err Alternative)) (Err NotChoice)) ≡ true → e ≡ false
third_test true true false l h = refl
third_test true true true l h = cc
third_test true false e l h = cc
third_test false d e l h = cc

both_tests : (b d : Bool) (x : Result (Unit {0}) Refusal) → b ≡ true → d ≡ true → cond b (cond d x (Err Alternative)) (Err NotChoice) ≡ x
both_tests b d x h k = rw (h, k) refl

mark_test : (b : Bool) (e : Refusal) → done (cond b (Ok tt) (Err e)) ≡ b
mark_test true e = refl
mark_test false e = refl

module _ {N C : Type 0} where
  -- a step that is done is one of a choice node, by alternative 0 or 1
  pub commit_choice : (m : Meaning N C) (a : ℕ) → done (commit_answer m a) ≡ true → is_choice (status_now m) ≡ true
  commit_choice m a h = grind (arith, nat_tests)

  pub commit_alternative : (m : Meaning N C) (a : ℕ) → done (commit_answer m a) ≡ true → a ≤ 1
  commit_alternative m a h = grind (arith, nat_tests)

  pub redo_choice : (m : Meaning N C) (a : ℕ) → done (redo_answer m a) ≡ true → is_choice (status_now m) ≡ true
  redo_choice m a h = grind (arith, nat_tests)

  pub redo_alternative : (m : Meaning N C) (a : ℕ) → done (redo_answer m a) ≡ true → a ≤ 1
  redo_alternative m a h = grind (arith, nat_tests)

  pub redo_done : (m : Meaning N C) (a : ℕ) → is_choice (status_now m) ≡ true → a ≤ 1 → redo_answer m a ≡ Ok tt
  redo_done m a h k = both_tests (is_choice (status_now m)) (leb a 1) (Ok tt) h (le-leb a 1 k)

  -- a mark is done just where there is room
  pub mark_done : (m : Meaning N C) → done (mark_answer m) ≡ ltb (length m.held) m.capacity
  mark_done m = mark_test (ltb (length m.held) m.capacity) (Capacity m.mark_layer)

  -- a refusal changes nothing, and what is not refused is done
  pub commit_refused : (m : Meaning N C) (a : ℕ) (e : Refusal) → Err e ≡ commit_answer m a → Commits m a (Err e) m
  commit_refused m a e h = (h, rw (← h) refl)

  pub commit_taken : (m n : Meaning N C) (a : ℕ) → Ok tt ≡ commit_answer m a → n ≡ spent (moved m a) → Commits m a (Ok tt) n
  commit_taken m n a h e = (h, rw (e, ← h) refl)

  pub redo_refused : (m : Meaning N C) (a : ℕ) (e : Refusal) → Err e ≡ redo_answer m a → Redoes m a (Err e) m
  redo_refused m a e h = (h, rw (← h) refl)

  pub redo_taken : (m n : Meaning N C) (a : ℕ) → Ok tt ≡ redo_answer m a → n ≡ moved m a → Redoes m a (Ok tt) n
  redo_taken m n a h e = (h, rw (e, ← h) refl)

  -- a commit that is done lowers the allowance by one, and a refused one leaves it
  pub commits_spend : (m n : Meaning N C) (a : ℕ) (r : Result (Unit {0}) Refusal) → Commits m a r n → Spends m r n
  commits_spend m n a r c = rw (c.0, c.1) (spend (done (commit_answer m a)) refl)
    where
      spend : (b : Bool) → done (commit_answer m a) ≡ b → (cond b (spent (moved m a)) m).allowance + cond b 1 0 ≤ m.allowance
      spend true h = omega (arith, eqb-false m.allowance 0 (third_test (is_choice (status_now m)) (leb a 1) (eqb m.allowance 0) m.commit_layer h))
      spend false h = omega arith
