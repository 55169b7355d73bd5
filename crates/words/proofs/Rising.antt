use Rattle.std.proofs.Common.{subst, sym, append_assoc, ◌^◌, ◌⊎◌, Bool, cond, List, ◌++◌, ◌≡◌, ℕ, zero, suc, ◌+◌, ◌<◌, ◌≤◌, true, false, [], ◌∷◌, refl, ap, ◌∙◌, inl, inr, arith}
use Rattle.std.specs.List.{filter, range_with_len, Contains}
use Rattle.std.proofs.lemmas.List.Elements.{Contains-append_left, Contains-append_right, Contains-append_cases, Contains-push, Contains-push_cases}
use Rattle.std.proofs.lemmas.Bool.{cases_eq, cases_Bool}
use Rattle.words.specs.Words.{bit, Lowest, Without}
use Rattle.words.specs.Values.{values_of}
use Rattle.words.proofs.Bit.{bit_zero}
use Rattle.words.proofs.Inside.{same_bool, in_word}
use Rattle.std.proofs.lemmas.List.{append-nil}

-- ---- the values below a number of places

-- words that agree from a place on have the same values there
agree : (a n w r : ℕ) → ((u : ℕ) → a ≤ u → bit w u ≡ bit r u) → filter (bit w) (range_with_len a n) ≡ filter (bit r) (range_with_len a n)
agree a zero w r e = refl
agree a (suc n) w r e = rw (e a (omega arith), agree (a + 1) n w r (λ u l. e u (omega arith)))

-- w without its lowest value
module _ (w v r : ℕ) (low : Lowest w v) (out : Without w v r) where
  same : (u : ℕ) → v < u → bit w u ≡ bit r u
  same u l = same_bool (bit w u) (bit r u) (λ h. out.stays u h (λ e. omega arith)) (λ h. (out.only u h).0)

  gone : (u : ℕ) → u ≤ v → bit r u ≡ false
  gone u l = elim (cases_Bool (bit r u)) [
    | inl t ↦ (let q = out.only u t in absurd (q.1 (omega (arith, low.least u q.0))))
    | inr f ↦ f
  ]

  not_yet : (u : ℕ) → u < v → bit w u ≡ false
  not_yet u l = elim (cases_Bool (bit w u)) [ inl t ↦ absurd (omega (arith, low.least u t)) | inr f ↦ f ]

  from : (a n : ℕ) → a ≤ v → v < a + n → filter (bit w) (range_with_len a n) ≡ v ∷ filter (bit r) (range_with_len a n)
  from a zero l h = absurd (omega arith)
  from a (suc n) l h = elim (cases_eq a v) [
    | inl e ↦ (
        let t : bit w a ≡ true = ap (bit w) e ∙ low.there in
        rw (t, gone a l, agree (a + 1) n w r (λ u m. same u (omega arith))) (ap (λ (x : ℕ). x ∷ filter (bit r) (range_with_len (a + 1) n)) e))
    | inr ne ↦ rw (not_yet a (omega arith), gone a l) (from (a + 1) n (omega arith) (omega arith))
  ]

  pub first_then : values_of w ≡ v ∷ values_of r
  unfolding values_of
  first_then = from 0 32 (omega arith) low.below

pub none_left : values_of 0 ≡ []
unfolding values_of
none_left = empty 0 32
  where
    empty : (a n : ℕ) → filter (bit 0) (range_with_len a n) ≡ []
    empty a zero = refl
    empty a (suc n) = rw (bit_zero a) (empty (a + 1) n)

-- ---- the list has just the values of the word

-- one element before others
in_cons : (x y : ℕ) (xs : List ℕ) → Contains (x ∷ xs) y → (y ≡ x) ⊎ Contains xs y
in_cons x y xs h = elim (Contains-append_cases (x ∷ []) xs y h) [
  | inl p ↦ elim (Contains-push_cases [] x y p) [ inl q ↦ absurd (omega (arith, q.1)) | inr e ↦ inl (sym e) ]
  | inr p ↦ inr p
]

module _ (w v : ℕ) where
  had : (a n : ℕ) → a ≤ v → v < a + n → bit w v ≡ true → Contains (filter (bit w) (range_with_len a n)) v
  had a zero l h b = absurd (omega arith)
  had a (suc n) l h b = elim (cases_eq v a) [
    | inl e ↦ (let t : bit w a ≡ true = ap (bit w) (sym e) ∙ b in
        rw (t, e) (Contains-append_left (a ∷ []) (filter (bit w) (range_with_len (a + 1) n)) a (Contains-push [] a)))
    | inr ne ↦ behind (bit w a) _ (had (a + 1) n (omega arith) (omega arith) b)
  ]
    where
      behind : (b : Bool) (xs : List ℕ) → Contains xs v → Contains (cond b (a ∷ xs) xs) v
      behind true xs p = Contains-append_right (a ∷ []) xs v p
      behind false xs p = p

  has_value : (a n : ℕ) → Contains (filter (bit w) (range_with_len a n)) v → (v < a + n) × (bit w v ≡ true)
  has_value a zero h = absurd (omega (arith, h.1))
  has_value a (suc n) h = go (bit w a) refl (filter (bit w) (range_with_len (a + 1) n)) (λ p. let q = has_value (a + 1) n p in (omega (arith, q.0), q.1)) h
    where
      go : (b : Bool) → bit w a ≡ b → (xs : List ℕ) → (Contains xs v → (v < a + suc n) × (bit w v ≡ true)) → Contains (cond b (a ∷ xs) xs) v → (v < a + suc n) × (bit w v ≡ true)
      go true e xs later p = elim (in_cons a v xs p) [ inl s ↦ (omega arith, ap (bit w) s ∙ e) | inr q ↦ later q ]
      go false e xs later p = later p

  pub among : v < 32 → bit w v ≡ true → Contains (values_of w) v
  unfolding values_of
  among l h = had 0 32 (omega arith) l h

  pub is_among : Contains (values_of w) v → (v < 32) × (bit w v ≡ true)
  unfolding values_of
  is_among h = has_value 0 32 h

-- the first of the values that are left is one of the word
pub coming : (w v : ℕ) (before left after : List ℕ) → values_of w ≡ before ++ left → left ≡ v ∷ after → (v < 32) × (bit w v ≡ true)
coming w v before left after e f =
    let P : List ℕ → Type 0 = (λ xs. Contains xs v) in
    is_among w v (subst P (sym (e ∙ ap (λ (xs : List ℕ). before ++ xs) f)) (Contains-append_right before (v ∷ after) v (Contains-append_left (v ∷ []) after v (Contains-push [] v))))

-- with it seen, the others are left
pub passed : (w v : ℕ) (before left after : List ℕ) → values_of w ≡ before ++ left → left ≡ v ∷ after → values_of w ≡ (before ++ v ∷ []) ++ after
passed w v before left after e f = e ∙ ap (λ (xs : List ℕ). before ++ xs) f ∙ sym (append_assoc before (v ∷ []) after)

-- where none is left, all have been seen
pub all_seen : (w v : ℕ) (before left : List ℕ) → w < 2 ^ 32 → values_of w ≡ before ++ left → left ≡ [] → bit w v ≡ true → Contains before v
all_seen w v before left s e f h =
    let P : List ℕ → Type 0 = (λ xs. Contains xs v) in
    subst P (e ∙ ap (λ (xs : List ℕ). before ++ xs) f ∙ append-nil before) (among w v (in_word w v s h) h)
