use Rattle.std.proofs.Common.{◌≡◌, ℕ, zero, suc, ◌<◌, ◌≤◌, true, false, eqb, ◌⊎◌, List, length, take, get_or, sym, refl, ap, ◌∙◌, inl, inr, arith}
use Rattle.std.specs.List.{list_any}
use Rattle.std.proofs.Math.Bool.{or-false, or_comm}
use Rattle.std.proofs.Math.Seq.{take-suc}
use Rattle.std.proofs.lemmas.Bool.{cases_eq, cases_Bool, both_ways, or_cases, or_left, or_right, eqb-true, eq-eqb}
use Rattle.std.proofs.lemmas.List.{get_or_past}
use Rattle.std.proofs.lemmas.List.Folds.{list_any-append}
use Rattle.nodes.specs.Choosing.{Filled, Empty, empty_below}

-- ---- a word is empty, or none is

pub empty_some : (k : ℕ) (n : List ℕ) → empty_below k n ≡ true → Empty k n
empty_some zero n h = absurd (both_ways false refl h)
empty_some (suc k) n h = elim (or_cases (eqb (get_or n k 0) 0) (empty_below k n) h) [
  | inl t ↦ (k, omega arith, eqb-true (get_or n k 0) 0 t)
  | inr t ↦ let r = empty_some k n t in (r.0, omega (arith, r.1), r.2)
]

pub empty_from : (k : ℕ) (n : List ℕ) (i : ℕ) → i < k → get_or n i 0 ≡ 0 → empty_below k n ≡ true
empty_from zero n i l e = absurd (omega arith)
empty_from (suc k) n i l e = elim (cases_eq i k) [
  | inl s ↦ or_left (eqb (get_or n k 0) 0) (empty_below k n) (eq-eqb (get_or n k 0) 0 (ap (λ (x : ℕ). get_or n x 0) (sym s) ∙ e))
  | inr ne ↦ or_right (eqb (get_or n k 0) 0) (empty_below k n) (empty_from k n i (omega arith) e)
]

pub filled_none : (k : ℕ) (n : List ℕ) → Filled k n → empty_below k n ≡ false
filled_none k n f = elim (cases_Bool (empty_below k n)) [
  | inl t ↦ (let e = empty_some k n t in absurd (f e.0 e.1 e.2))
  | inr g ↦ g
]

pub none_filled : (k : ℕ) (n : List ℕ) → empty_below k n ≡ false → Filled k n
none_filled k n f i l e = both_ways (empty_below k n) f (empty_from k n i l e)

pub empty? : (k : ℕ) (n : List ℕ) → Empty k n ⊎ Filled k n
empty? k n = elim (cases_Bool (empty_below k n)) [ inl t ↦ inl (empty_some k n t) | inr f ↦ inr (none_filled k n f) ]

-- a look through the first words
pub any_empty : (w : ℕ) (n : List ℕ) → w ≤ length n → list_any (λ x. eqb x 0) (take w n) ≡ empty_below w n
any_empty zero n h = refl
any_empty (suc k) n h = rw (take-suc n k 0 (omega arith), list_any-append) (cc (any_empty k n (omega arith), or-false (eqb (get_or n k 0) 0), or_comm (empty_below k n) (eqb (get_or n k 0) 0)))

-- a node has no word beyond the thirty-second
pub past_empty : (w : ℕ) (n : List ℕ) → length n < w → empty_below w n ≡ true
past_empty w n l = empty_from w n (length n) l (get_or_past n (length n) 0 (omega arith))
