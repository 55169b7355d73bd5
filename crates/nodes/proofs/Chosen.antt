use Rattle.std.proofs.Common.{◌≡◌, ℕ, zero, suc, ◌^◌, ◌<◌, ◌≤◌, Bool, true, false, cond, eqb, ltb, ◌⊎◌, List, length, take, get_or, sym, refl, ap, ◌∙◌, subst, inl, inr, arith}
use lib.Count.{ones, count_trailing_zeros}
use Rattle.std.proofs.lemmas.List.{get_or-take, length-take}
use Rattle.std.proofs.lemmas.Bool.{cases_eq, cases_lt, and_parts, and_cases, ltb-true, ltb-false, eqb-true, eqb-false, eq-eqb, ne_eqb, cond_both, cond-true, cond-false}
use Rattle.trees.specs.declared.Status.{Status}
use Rattle.trees.specs.declared.Status.TheVariants.{Failed, Solved, Choice}
use Rattle.words.specs.Words.{Fit, Lowest}
use Rattle.nodes.specs.Choosing.{Filled, Empty, Chosen, Says, empty_below, better, fewest, chosen, smallest, status, rest, reach}
use Rattle.words.proofs.Bit.{is_lowest}
use Rattle.nodes.proofs.Emptiness.{empty_from, empty_some, filled_none, none_filled}
use Rattle.nodes.proofs.Counts.{ones_most, ones_pow, ones_none, filled_ones, one_value, rest_pos, reach_pos}

-- ---- the first k words, with the fewest values f, but more than one, at c

pub record Picked (n : List ℕ) (k f c : ℕ) : Type 0 where
  pub bound : (j : ℕ) → j < k → 1 < ones (get_or n j 0) → f ≤ ones (get_or n j 0)
  pub place : (f ≡ 33) ⊎ ((c < k) × (ones (get_or n c 0) ≡ f) × (1 < f) × ((j : ℕ) → j < c → 1 < ones (get_or n j 0) → f < ones (get_or n j 0)))

picked_new : (n : List ℕ) (k f c : ℕ) → Picked n k f c → 1 < ones (get_or n k 0) → ones (get_or n k 0) < f → Picked n (suc k) (ones (get_or n k 0)) k
picked_new n k f c p h l = record {
  bound = λ j b g. elim (cases_eq j k) [
    | inl e ↦ omega (arith, ap (λ (i : ℕ). ones (get_or n i 0)) e)
    | inr ne ↦ omega (arith, p.bound j (omega arith) g)
  ];
  place = inr (omega arith, refl, h, λ j b g. omega (arith, p.bound j b g));
}

picked_old : (n : List ℕ) (k f c : ℕ) → Picked n k f c → (1 < ones (get_or n k 0) → f ≤ ones (get_or n k 0)) → Picked n (suc k) f c
picked_old n k f c p h = record {
  bound = λ j b g. elim (cases_eq j k) [
    | inl e ↦
        (let P : ℕ → Type 0 = (λ i. 1 < ones (get_or n i 0)) in
        omega (arith, ap (λ (i : ℕ). ones (get_or n i 0)) e, h (subst P e g)))
    | inr ne ↦ p.bound j (omega arith) g
  ];
  place = elim p.place [ inl e ↦ inl e | inr q ↦ inr (omega (arith, q.0), q.1, q.2, q.3) ];
}

not_better : (n : List ℕ) (k f : ℕ) → better n k f ≡ false → 1 < ones (get_or n k 0) → f ≤ ones (get_or n k 0)
not_better n k f e h = elim (and_cases (ltb 1 (ones (get_or n k 0))) (ltb (ones (get_or n k 0)) f) e) [
  | inl a ↦ omega (arith, ltb-false 1 (ones (get_or n k 0)) a)
  | inr b ↦ ltb-false (ones (get_or n k 0)) f b
]

picked_step : (n : List ℕ) (k f c : ℕ) (b : Bool) → better n k f ≡ b → Picked n k f c → Picked n (suc k) (cond b (ones (get_or n k 0)) f) (cond b k c)
picked_step n k f c true e p =
    let q = and_parts (ltb 1 (ones (get_or n k 0))) (ltb (ones (get_or n k 0)) f) e in
    picked_new n k f c p (ltb-true 1 (ones (get_or n k 0)) q.0) (ltb-true (ones (get_or n k 0)) f q.1)
picked_step n k f c false e p = picked_old n k f c p (not_better n k f e)

pub picked : (n : List ℕ) (k : ℕ) → Picked n k (fewest n k) (chosen n k)
unfolding fewest chosen
picked n zero = record { bound = λ j b g. absurd (omega arith); place = inl refl }
picked n (suc k) = picked_step n k (fewest n k) (chosen n k) (better n k (fewest n k)) refl (picked n k)

-- ---- one turn of the loop

-- ---- what the status says

pub chosen_below : (n : List ℕ) (k : ℕ) → (fewest n k ≡ 33 → ⊥) → chosen n k < k
chosen_below n k ne = elim (picked n k).place [ inl e ↦ absurd (ne e) | inr q ↦ q.0 ]

pub is_chosen : (w : ℕ) (n : List ℕ) → ((j : ℕ) → j < w → get_or n j 0 < 2 ^ 32) → Filled w n → (fewest n w ≡ 33 → ⊥) → Chosen w n (chosen n w) (smallest w n)
is_chosen w n s l ne =
    let p = picked n w in
    elim p.place [
      | inl e ↦ absurd (ne e)
      | inr q ↦ record {
        below = q.0;
        several = omega (arith, q.1, q.2);
        fewest = λ j b g. omega (arith, q.1, p.bound j b g);
        first = λ j b g. omega (arith, q.1, q.3 j b g);
        smallest = is_lowest (get_or n (chosen n w) 0) (l (chosen n w) q.0) (s (chosen n w) q.0);
      }
    ]

pub all_one : (w : ℕ) (n : List ℕ) → ((j : ℕ) → j < w → get_or n j 0 < 2 ^ 32) → Filled w n → fewest n w ≡ 33 → (i : ℕ) → i < w → ones (get_or n i 0) ≡ 1
all_one w n s l e i b = elim (cases_eq (ones (get_or n i 0)) 1) [
  | inl o ↦ o
  | inr ne ↦
      (let pos : 0 < ones (get_or n i 0) = filled_ones w n l i b in
      absurd (omega (arith, (picked n w).bound i b (omega arith), ones_most (get_or n i 0) (s i b))))
]

pub status_failed : (w : ℕ) (n : List ℕ) → Empty w n → status w n ≡ Failed
status_failed w n e = cond-true (empty_below w n) _ _ (empty_from w n e.0 e.1 e.2)

pub status_solved : (w : ℕ) (n : List ℕ) → Filled w n → fewest n w ≡ 33 → status w n ≡ Solved
status_solved w n l e = cond-false (empty_below w n) _ _ (filled_none w n l) ∙ cond-true (eqb (fewest n w) 33) _ _ (eq-eqb (fewest n w) 33 e)

pub status_choice : (w : ℕ) (n : List ℕ) → Filled w n → (fewest n w ≡ 33 → ⊥) → status w n ≡ Choice (chosen n w, smallest w n)
status_choice w n l ne = cond-false (empty_below w n) _ _ (filled_none w n l) ∙ cond-false (eqb (fewest n w) 33) _ _ (ne_eqb (fewest n w) 33 ne)

pub status_says : (w : ℕ) (n : List ℕ) → Fit n → Says w n (status w n)
status_says w n f =
    let P : Status → Type 0 = (λ s. Says w n s) in
    cond_both (empty_below w n) Failed _ P (λ t. empty_some w n t)
    (λ g. cond_both (eqb (fewest n w) 33) Solved _ P
    (λ t. all_one w n (λ j _. f.small j) (none_filled w n g) (eqb-true (fewest n w) 33 t))
    (λ t. (none_filled w n g, is_chosen w n (λ j _. f.small j) (none_filled w n g) (eqb-false (fewest n w) 33 t))))

-- ---- back from the status

pub says_by : (w : ℕ) (n : List ℕ) (s : Status) → Fit n → status w n ≡ s → Says w n s
says_by w n s f e = let P : Status → Type 0 = (λ s. Says w n s) in subst P e (status_says w n f)

pub failed_empty : (w : ℕ) (n : List ℕ) → Fit n → status w n ≡ Failed → Empty w n
failed_empty w n f e = says_by w n Failed f e

pub solved_ones : (w : ℕ) (n : List ℕ) → Fit n → status w n ≡ Solved → (i : ℕ) → i < w → ones (get_or n i 0) ≡ 1
solved_ones w n f e = says_by w n Solved f e

pub solved_pow : (w : ℕ) (n : List ℕ) → Fit n → status w n ≡ Solved → (i : ℕ) → i < w → get_or n i 0 ≡ 2 ^ count_trailing_zeros 32 (get_or n i 0)
solved_pow w n f e i l = one_value (get_or n i 0) (f.small i) (solved_ones w n f e i l)

pub choice_chosen : (w : ℕ) (n : List ℕ) (c : ℕ × ℕ) → Fit n → status w n ≡ Choice c → Filled w n × Chosen w n c.0 c.1
choice_chosen w n c f e = says_by w n (Choice c) f e

pub choice_is : (w : ℕ) (n : List ℕ) (c : ℕ × ℕ) → status w n ≡ Choice c → c ≡ (chosen n w, smallest w n)
choice_is w n c e = by_cases (empty_below w n) (eqb (fewest n w) 33) e
  where
    by_cases : (x y : Bool) → cond x Failed (cond y Solved (Choice (chosen n w, smallest w n))) ≡ Choice c → c ≡ (chosen n w, smallest w n)
    by_cases true y e = absurd (let z : ◌≡◌ {A = ℕ} 0 1 = cc in omega arith)
    by_cases false true e = absurd (let z : ◌≡◌ {A = ℕ} 0 1 = cc in omega arith)
    by_cases false false e = cc

-- a node whose words each hold one value is solved
pub ones_solved : (w : ℕ) (n : List ℕ) → ((i : ℕ) → i < w → ones (get_or n i 0) ≡ 1) → status w n ≡ Solved
ones_solved w n o = status_solved w n
    (λ i l e. omega (arith, o i l, ap ones e, ones_none))
    (elim (picked n w).place [ inl e ↦ e | inr q ↦ absurd (omega (arith, o (chosen n w) q.0, q.1, q.2)) ])

pub pow_solved : (w : ℕ) (n : List ℕ) → ((i : ℕ) → i < w → (v : ℕ) × (get_or n i 0 ≡ 2 ^ v)) → status w n ≡ Solved
pow_solved w n p = ones_solved w n (λ i l. ap ones (p i l).1 ∙ ones_pow (p i l).0)

-- ---- the smallest value of a word is one

pub lowest_same : (w u v : ℕ) → Lowest w u → Lowest w v → u ≡ v
lowest_same w u v a b = omega (arith, a.least v b.there, b.least u a.there)

-- a variable that is chosen, with the smallest value of its word, is the choice
pub chosen_is : (w : ℕ) (n : List ℕ) (x v : ℕ) → get_or n x 0 < 2 ^ 32 → Filled w n → Chosen w n x v → Choice (x, v) ≡ status w n
chosen_is w n x v small full c =
    let p = picked n w in
    let few : fewest n w ≡ 33 → ⊥ = (λ e. omega (arith, p.bound x c.below c.several, ones_most (get_or n x 0) small)) in
    let same : x ≡ chosen n w = elim p.place [
      | inl e ↦ absurd (few e)
      | inr q ↦ elim (cases_lt x (chosen n w)) [
        | inl l ↦ absurd (omega (arith, q.3 x l c.several, q.1, c.fewest (chosen n w) q.0 (omega (arith, q.1, q.2))))
        | inr h ↦ elim (cases_lt (chosen n w) x) [
          | inl l ↦ absurd (omega (arith, p.bound x c.below c.several, q.1, c.first (chosen n w) l (omega (arith, q.1, q.2))))
          | inr g ↦ omega arith
        ]
      ]
    ] in
    let low : v ≡ count_trailing_zeros 32 (get_or n x 0) = lowest_same (get_or n x 0) v _ c.smallest (is_lowest (get_or n x 0) (full x c.below) small) in
    cc (status_choice w n full few)

-- none of the first k words has several values
abbrev pub NoneBelow : List ℕ → ℕ → Type 0
NoneBelow ws k = (j : ℕ) → j < k → ones (get_or ws j 0) ≤ 1

-- of the first k words, word x is the first with the fewest values, but more than one
pub record BestBelow (ws : List ℕ) (k count x word : ℕ) : Type 0 where
  pub below : x < k
  pub is : word ≡ get_or ws x 0
  pub small : word < 2 ^ 32
  pub counted : count ≡ ones word
  pub several : 1 < count
  pub fewest : (j : ℕ) → j < k → 1 < ones (get_or ws j 0) → count ≤ ones (get_or ws j 0)
  pub first : (j : ℕ) → j < x → 1 < ones (get_or ws j 0) → count < ones (get_or ws j 0)

-- what the loop over the words in use ends with
module _ (w : ℕ) (n ws : List ℕ) (thirty_two : length n ≡ 32) (high : w ≤ 32) (e : ws ≡ take w n) (f : empty_below w n ≡ false) where
  full : Filled w n
  full = none_filled w n f

  long : length ws ≡ w
  long = ap length e ∙ length-take w n ∙ omega arith

  at : (j : ℕ) → j < w → get_or ws j 0 ≡ get_or n j 0
  at j l = ap (λ (m : List ℕ). get_or m j 0) e ∙ get_or-take w n j 0 l

  pub found : (count x v word : ℕ) → BestBelow ws (length ws) count x word → ((word ≡ 0 → ⊥) → Lowest word v)
      → (Choice (x, v) ≡ status w n) × (Filled w n × Chosen w n x v)
  found count x v word b low =
      let l : x < w = omega (arith, long, b.below) in
      let this : get_or n x 0 ≡ word = sym (at x l) ∙ sym b.is in
      let P : ℕ → Type 0 = (λ u. Lowest u v) in
      let c : Chosen w n x v = record {
        below = l;
        several = omega (arith, ap ones this, b.counted, b.several);
        fewest = λ j k m. omega (arith, ap ones this, b.counted, ap ones (at j k), b.fewest j (omega (arith, long)) (omega (arith, ap ones (at j k))));
        first = λ j k m. (let h : j < w = omega arith in omega (arith, ap ones this, b.counted, ap ones (at j h), b.first j k (omega (arith, ap ones (at j h)))));
        smallest = subst P (sym this) (low (λ z. full x l (this ∙ z)));
      } in
      (chosen_is w n x v (omega (arith, this, b.small)) full c, (full, c))

  pub all_found : NoneBelow ws (length ws) → (Solved ≡ status w n) × ((i : ℕ) → i < w → ones (get_or n i 0) ≡ 1)
  all_found none =
      let one : (i : ℕ) → i < w → ones (get_or n i 0) ≡ 1 =
      (λ i l. omega (arith, none i (omega (arith, long)), ap ones (at i l), filled_ones w n full i l)) in
      (sym (ones_solved w n one), one)

-- ---- what is open at a choice

pub choice_rest : (w : ℕ) (n : List ℕ) (c : ℕ × ℕ) → Fit n → status w n ≡ Choice c → 0 < rest w n
choice_rest w n c f e = let s = choice_chosen w n c f e in rest_pos w n s.0 c.0 s.1.below s.1.several

pub choice_reach : (w : ℕ) (n : List ℕ) (c : ℕ × ℕ) → Fit n → status w n ≡ Choice c → 0 < reach w n
choice_reach w n c f e = let s = choice_chosen w n c f e in reach_pos w n s.0 c.0 s.1.below s.1.several
