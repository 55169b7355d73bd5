use Rattle.std.proofs.Common.{◌≡◌, ℕ, zero, suc, ◌<◌, ◌≤◌, Bool, true, false, cond, not, ◌||◌, eqb, List, get_or, ℤ, pos, ◌+ℤ◌, ◌≤ℤ◌, sym, refl, ap, ◌∙◌, inl, inr, arith}
use Rattle.std.proofs.lemmas.Int.{ints}
use Rattle.std.proofs.lemmas.Bool.{cases_eq, both_ways, and_from, and_parts, or_left, or_right, or_cases, not-true, not_from_false, eq-eqb, ne_eqb, eqb-true, eqb-false, cond-false}
use Rattle.sum_networks.specs.Sums.{summed, summed_but, others}

add_le : (a b x y : ℤ) → a ≤ℤ b → x ≤ℤ y → (a +ℤ x) ≤ℤ (b +ℤ y)
add_le a b x y h k = omega (arith, ints)

same_le : (a : ℤ) → a ≤ℤ a
same_le a = omega (arith, ints)

-- term by term
pub summed_same : (f g : ℕ → ℤ) (k : ℕ) → ((j : ℕ) → j < k → f j ≡ g j) → summed f k ≡ summed g k
summed_same f g zero h = refl
summed_same f g (suc k) h = ap (λ (z : ℤ). z +ℤ f k) (summed_same f g k (λ j l. h j (omega arith))) ∙ ap (λ (z : ℤ). summed g k +ℤ z) (h k (omega arith))

pub summed_le : (f g : ℕ → ℤ) (k : ℕ) → ((j : ℕ) → j < k → f j ≤ℤ g j) → summed f k ≤ℤ summed g k
summed_le f g zero h = same_le (pos 0)
summed_le f g (suc k) h = add_le (summed f k) (summed g k) (f k) (g k) (summed_le f g k (λ j l. h j (omega arith))) (h k (omega arith))

pub but_le : (f g : ℕ → ℤ) (i k : ℕ) → ((j : ℕ) → j < k → (j ≡ i → ⊥) → f j ≤ℤ g j) → summed_but f i k ≤ℤ summed_but g i k
but_le f g i zero h = same_le (pos 0)
but_le f g i (suc k) h = go (eqb k i) refl (but_le f g i k (λ j l. h j (omega arith)))
  where
    go : (b : Bool) → eqb k i ≡ b → summed_but f i k ≤ℤ summed_but g i k → cond b (summed_but f i k) (summed_but f i k +ℤ f k) ≤ℤ cond b (summed_but g i k) (summed_but g i k +ℤ g k)
    go true e ih = ih
    go false e ih = add_le (summed_but f i k) (summed_but g i k) (f k) (g k) ih (h k (omega arith) (eqb-false k i e))

-- all but one: the total less that one
pub rest_is : (f : ℕ → ℤ) (i k : ℕ) → i < k → summed f k ≡ summed_but f i k +ℤ f i
rest_is f i zero h = absurd (omega arith)
rest_is f i (suc k) h = go (eqb k i) refl (λ l. rest_is f i k l)
  where
    swap : (t r a b : ℤ) → t ≡ r +ℤ a → t +ℤ b ≡ (r +ℤ b) +ℤ a
    swap t r a b e = omega (arith, ints)

    past : (j : ℕ) → j ≤ i → summed f j ≡ summed_but f i j
    past zero l = refl
    past (suc j) l = ap (λ (z : ℤ). z +ℤ f j) (past j (omega arith)) ∙ sym (cond-false (eqb j i) (summed_but f i j) (summed_but f i j +ℤ f j) (ne_eqb j i (λ e. omega arith)))

    go : (b : Bool) → eqb k i ≡ b → (i < k → summed f k ≡ summed_but f i k +ℤ f i) → summed f k +ℤ f k ≡ cond b (summed_but f i k) (summed_but f i k +ℤ f k) +ℤ f i
    go true e ih = ap (λ (z : ℤ). z +ℤ f k) (past k (omega (arith, eqb-true k i e))) ∙ ap (λ (j : ℕ). summed_but f i k +ℤ f j) (eqb-true k i e)
    go false e ih = swap (summed f k) (summed_but f i k) (f i) (f k) (ih (omega (arith, eqb-false k i e)))

-- ---- every other word has a value, as a test

pub others_from : (n : List ℕ) (i k : ℕ) → ((j : ℕ) → j < k → (j ≡ i → ⊥) → get_or n j 0 ≡ 0 → ⊥) → others n i k ≡ true
others_from n i zero f = refl
others_from n i (suc k) f = and_from (eqb k i || not (eqb (get_or n k 0) 0)) (others n i k) here (others_from n i k (λ j l. f j (omega arith)))
  where
    here : (eqb k i || not (eqb (get_or n k 0) 0)) ≡ true
    here = elim (cases_eq k i) [
      | inl e ↦ or_left (eqb k i) (not (eqb (get_or n k 0) 0)) (eq-eqb k i e)
      | inr ne ↦ or_right (eqb k i) (not (eqb (get_or n k 0) 0)) (not_from_false (eqb (get_or n k 0) 0) (ne_eqb (get_or n k 0) 0 (f k (omega arith) ne)))
    ]

pub others_parts : (n : List ℕ) (i k : ℕ) → others n i k ≡ true → (j : ℕ) → j < k → (j ≡ i → ⊥) → get_or n j 0 ≡ 0 → ⊥
others_parts n i zero h j l ne z = absurd (omega arith)
others_parts n i (suc k) h j l ne z = elim (cases_eq j k) [
  | inl e ↦ elim (or_cases (eqb k i) (not (eqb (get_or n k 0) 0)) q.0) [
    | inl t ↦ ne (e ∙ eqb-true k i t)
    | inr t ↦ both_ways (eqb (get_or n k 0) 0) (not-true (eqb (get_or n k 0) 0) t) (eq-eqb (get_or n k 0) 0 (ap (λ (x : ℕ). get_or n x 0) (sym e) ∙ z))
  ]
  | inr nk ↦ others_parts n i k q.1 j (omega arith) ne z
]
  where
    q : ((eqb k i || not (eqb (get_or n k 0) 0)) ≡ true) × (others n i k ≡ true)
    q = and_parts (eqb k i || not (eqb (get_or n k 0) 0)) (others n i k) h
