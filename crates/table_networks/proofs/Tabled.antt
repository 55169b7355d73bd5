use Rattle.std.proofs.Common.{◌≡◌, ℕ, zero, suc, ◌^◌, ◌<◌, Bool, true, false, cond, ◌&&◌, eqb, ltb, List, length, get_or, set, sym, refl, ap, ◌∙◌, inl, inr, arith}
use lib.Bits.{bit_or}
use Rattle.std.proofs.lemmas.List.{get_or-set_same, get_or-set_other, length-set}
use Rattle.std.proofs.lemmas.Bool.{cases_eq, both_ways, and_from, and_parts, or_cases, or_left, or_right, or_parts, eq-eqb, ne_eqb, lt-ltb, ltb-true, cond-true, cond-false}
use Rattle.words.specs.Words.{bit, has, Change}
use Rattle.words.proofs.Bit.{bit_of_or, bit_zero, bit_pow_same, bit_pow_other}
use Rattle.words.proofs.Inside.{same_bool, in_word}
use Rattle.propagation.specs.Networks.{Assigns, Sane, Differ}
use Rattle.table_networks.specs.Tables.{Table, allows, Kept, some, table_supports, table_meets, tables_network}

some_parts : (q : ℕ → Bool) (k : ℕ) → some q k ≡ true → (b : ℕ) × (b < k) × (q b ≡ true)
some_parts q zero h = absurd (both_ways false refl h)
some_parts q (suc k) h = elim (or_cases (q k) (some q k) h) [
  | inl t ↦ (k, omega arith, t)
  | inr t ↦ let r = some_parts q k t in (r.0, omega (arith, r.1), r.2)
]

some_from : (q : ℕ → Bool) (k b : ℕ) → b < k → q b ≡ true → some q k ≡ true
some_from q zero b l h = absurd (omega arith)
some_from q (suc k) b l h = elim (cases_eq b k) [
  | inl e ↦ or_left (q k) (some q k) (ap q (sym e) ∙ h)
  | inr ne ↦ or_right (q k) (some q k) (some_from q k b (omega arith) h)
]

some_like : (q r : ℕ → Bool) (k : ℕ) → ((b : ℕ) → q b ≡ true → r b ≡ true) → some q k ≡ true → some r k ≡ true
some_like q r k f h = let p = some_parts q k h in some_from r k p.0 p.1 (f p.0 p.2)

-- what a table supports, by the variable
module _ (t : Table) (n : List ℕ) (i v : ℕ) where
  at_x : i ≡ t.x → table_supports t n i v ≡ some (λ b. has n t.y b && allows t v b) 32
  at_x e = cond-true (eqb i t.x) (some (λ b. has n t.y b && allows t v b) 32) (cond (eqb i t.y) (some (λ a. has n t.x a && allows t a v) 32) true) (eq-eqb i t.x e)

  off_x : (i ≡ t.x → ⊥) → table_supports t n i v ≡ cond (eqb i t.y) (some (λ a. has n t.x a && allows t a v) 32) true
  off_x e = cond-false (eqb i t.x) (some (λ b. has n t.y b && allows t v b) 32) (cond (eqb i t.y) (some (λ a. has n t.x a && allows t a v) 32) true) (ne_eqb i t.x e)

  at_y : (i ≡ t.x → ⊥) → i ≡ t.y → table_supports t n i v ≡ some (λ a. has n t.x a && allows t a v) 32
  at_y ne e = off_x ne ∙ cond-true (eqb i t.y) (some (λ a. has n t.x a && allows t a v) 32) true (eq-eqb i t.y e)

  off : (i ≡ t.x → ⊥) → (i ≡ t.y → ⊥) → table_supports t n i v ≡ true
  off ne nf = off_x ne ∙ cond-false (eqb i t.y) (some (λ a. has n t.x a && allows t a v) 32) true (ne_eqb i t.y nf)

-- more values, more support: what holds of the two words decides
supports_like : (t : Table) (a b : List ℕ) → ((v : ℕ) → has a t.x v ≡ true → has b t.x v ≡ true) → ((v : ℕ) → has a t.y v ≡ true → has b t.y v ≡ true)
    → (i v : ℕ) → table_supports t a i v ≡ true → table_supports t b i v ≡ true
supports_like t a b fx fy i v h = elim (cases_eq i t.x) [
  | inl e ↦ at_x t b i v e ∙ some_like (λ u. has a t.y u && allows t v u) (λ u. has b t.y u && allows t v u) 32 (λ u q. let p = and_parts (has a t.y u) (allows t v u) q in and_from (has b t.y u) (allows t v u) (fy u p.0) p.1) (sym (at_x t a i v e) ∙ h)
  | inr ne ↦ elim (cases_eq i t.y) [
    | inl e ↦ at_y t b i v ne e ∙ some_like (λ u. has a t.x u && allows t u v) (λ u. has b t.x u && allows t u v) 32 (λ u q. let p = and_parts (has a t.x u) (allows t u v) q in and_from (has b t.x u) (allows t u v) (fx u p.0) p.1) (sym (at_y t a i v ne e) ∙ h)
    | inr nf ↦ off t b i v ne nf
  ]
]

touch_x : (x y : ℕ) → bit (bit_or (2 ^ x) (2 ^ y)) x ≡ true
touch_x x y = bit_of_or (2 ^ x) (2 ^ y) x ∙ or_left (bit (2 ^ x) x) (bit (2 ^ y) x) (bit_pow_same x)

touch_y : (x y : ℕ) → bit (bit_or (2 ^ x) (2 ^ y)) y ≡ true
touch_y x y = bit_of_or (2 ^ x) (2 ^ y) y ∙ or_right (bit (2 ^ x) y) (bit (2 ^ y) y) (bit_pow_same y)

-- ---- a table is met exactly where it supports every value

-- the two variables are in use, and differ
pub record Sound (width : ℕ) (t : Table) : Type 0 where
  pub x_below : t.x < width
  pub y_below : t.y < width
  pub apart : t.x ≡ t.y → ⊥

module _ (width : ℕ) (t : Table) (s : Sound width t) (a o : List ℕ) (is : Assigns width a o) where
  -- a word of an assignment holds its value, and no other
  there : (i : ℕ) → i < width → has o i (get_or a i 0) ≡ true
  there i l = ap (λ (w : ℕ). bit w (get_or a i 0)) (is.value i l) ∙ bit_pow_same (get_or a i 0)

  alone : (i v : ℕ) → i < width → has o i v ≡ true → v ≡ get_or a i 0
  alone i v l h = elim (cases_eq v (get_or a i 0)) [
    | inl e ↦ e
    | inr ne ↦ absurd (both_ways (has o i v) (ap (λ (w : ℕ). bit w v) (is.value i l) ∙ bit_pow_other (get_or a i 0) v ne) h)
  ]

  table_met : ((i v : ℕ) → has o i v ≡ true → table_supports t o i v ≡ true) → table_meets t a ≡ true
  table_met h =
      let v = get_or a t.x 0 in
      let p = some_parts (λ b. has o t.y b && allows t v b) 32 (sym (at_x t o t.x v refl) ∙ h t.x v (there t.x s.x_below)) in
      let q = and_parts (has o t.y p.0) (allows t v p.0) p.2 in
      let e = alone t.y p.0 s.y_below q.0 in
      and_from (ltb v 32 && ltb (get_or a t.y 0) 32) (allows t v (get_or a t.y 0))
      (and_from (ltb v 32) (ltb (get_or a t.y 0) 32) (lt-ltb v 32 (x_small h)) (lt-ltb (get_or a t.y 0) 32 (omega (arith, p.1))))
      (ap (allows t v) (sym e) ∙ q.1)
    where
      x_small : ((i v : ℕ) → has o i v ≡ true → table_supports t o i v ≡ true) → get_or a t.x 0 < 32
      x_small h =
          let w = get_or a t.y 0 in
          let p = some_parts (λ u. has o t.x u && allows t u w) 32 (sym (at_y t o t.y w (λ e. s.apart (sym e)) refl) ∙ h t.y w (there t.y s.y_below)) in
          let q = and_parts (has o t.x p.0) (allows t p.0 w) p.2 in
          omega (arith, p.1, alone t.x p.0 s.x_below q.0)

  table_holds : table_meets t a ≡ true → (i v : ℕ) → has o i v ≡ true → table_supports t o i v ≡ true
  table_holds meets i v h = elim (cases_eq i t.x) [
    | inl e ↦ at_x t o i v e ∙ some_from (λ b. has o t.y b && allows t v b) 32 (get_or a t.y 0) (ltb-true (get_or a t.y 0) 32 small.1)
        (and_from (has o t.y (get_or a t.y 0)) (allows t v (get_or a t.y 0)) (there t.y s.y_below) (ap (λ (u : ℕ). allows t u (get_or a t.y 0)) (value t.x s.x_below e) ∙ parts.1))
    | inr ne ↦ elim (cases_eq i t.y) [
      | inl e ↦ at_y t o i v ne e ∙ some_from (λ u. has o t.x u && allows t u v) 32 (get_or a t.x 0) (ltb-true (get_or a t.x 0) 32 small.0)
          (and_from (has o t.x (get_or a t.x 0)) (allows t (get_or a t.x 0) v) (there t.x s.x_below) (ap (allows t (get_or a t.x 0)) (value t.y s.y_below e) ∙ parts.1))
      | inr nf ↦ off t o i v ne nf
    ]
  ]
    where
      parts : ((ltb (get_or a t.x 0) 32 && ltb (get_or a t.y 0) 32) ≡ true) × (allows t (get_or a t.x 0) (get_or a t.y 0) ≡ true)
      parts = and_parts (ltb (get_or a t.x 0) 32 && ltb (get_or a t.y 0) 32) (allows t (get_or a t.x 0) (get_or a t.y 0)) meets

      small : (ltb (get_or a t.x 0) 32 ≡ true) × (ltb (get_or a t.y 0) 32 ≡ true)
      small = and_parts (ltb (get_or a t.x 0) 32) (ltb (get_or a t.y 0) 32) parts.0

      value : (j : ℕ) → j < width → i ≡ j → v ≡ get_or a j 0
      value j l e = alone j v l (ap (λ (k : ℕ). has o k v) (sym e) ∙ h)

pub tables_sane : (width count : ℕ) (t : ℕ → Table) → ((k : ℕ) → k < count → Sound width (t k)) → Sane (tables_network width count t)
tables_sane width count t ok = record {
  grows = λ k i v a b f h. supports_like (t k) a b (f (t k).x) (f (t k).y) i v h;
  «local» = λ k i v a b _ _ f h. supports_like (t k) a b
      (λ v h. ap (λ (w : ℕ). bit w v) (sym (f (t k).x (touch_x (t k).x (t k).y))) ∙ h)
      (λ v h. ap (λ (w : ℕ). bit w v) (sym (f (t k).y (touch_y (t k).x (t k).y))) ∙ h) i v h;
  met = λ k l a o is h. table_met width (t k) (ok k l) a o is h;
  holds = λ k l a o is m. table_holds width (t k) (ok k l) a o is m;
}

-- ---- one revision

module _ (t : Table) (n : List ℕ) (kx ky : ℕ) (lx : t.x < length n) (ly : t.y < length n) (apart : t.x ≡ t.y → ⊥) where
  word_x : get_or (set (set n t.x kx) t.y ky) t.x 0 ≡ kx
  word_x = get_or-set_other (set n t.x kx) t.y t.x ky 0 apart ∙ get_or-set_same n t.x kx 0 lx

  word_y : get_or (set (set n t.x kx) t.y ky) t.y 0 ≡ ky
  word_y = get_or-set_same (set n t.x kx) t.y ky 0 (omega (arith, length-set n t.x kx))

  word_other : (i : ℕ) → (i ≡ t.x → ⊥) → (i ≡ t.y → ⊥) → get_or (set (set n t.x kx) t.y ky) i 0 ≡ get_or n i 0
  word_other i ne nf = get_or-set_other (set n t.x kx) t.y i ky 0 nf ∙ get_or-set_other n t.x i kx 0 ne

  pub revised : get_or n t.x 0 < 2 ^ 32 → get_or n t.y 0 < 2 ^ 32 → Kept t.row (get_or n t.x 0) (get_or n t.y 0) kx ky
      → (i v : ℕ) → has (set (set n t.x kx) t.y ky) i v ≡ (has n i v && table_supports t n i v)
  revised sx sy r i v = elim (cases_eq i t.x) [
    | inl e ↦ ap (λ (w : ℕ). bit w v) (ap (λ (j : ℕ). get_or (set (set n t.x kx) t.y ky) j 0) e ∙ word_x)
        ∙ on_x ∙ ap (λ (j : ℕ). has n j v && some (λ b. has n t.y b && allows t v b) 32) (sym e) ∙ ap (λ (s : Bool). has n i v && s) (sym (at_x t n i v e))
    | inr ne ↦ elim (cases_eq i t.y) [
      | inl e ↦ ap (λ (w : ℕ). bit w v) (ap (λ (j : ℕ). get_or (set (set n t.x kx) t.y ky) j 0) e ∙ word_y)
          ∙ on_y ∙ ap (λ (j : ℕ). has n j v && some (λ a. has n t.x a && allows t a v) 32) (sym e) ∙ ap (λ (s : Bool). has n i v && s) (sym (at_y t n i v ne e))
      | inr nf ↦ ap (λ (w : ℕ). bit w v) (word_other i ne nf) ∙ sym (all (has n i v) (table_supports t n i v) (off t n i v ne nf))
    ]
  ]
    where
      all : (s t : Bool) → t ≡ true → (s && t) ≡ s
      all true t e = e
      all false t e = refl

      on_x : bit kx v ≡ (has n t.x v && some (λ b. has n t.y b && allows t v b) 32)
      on_x = same_bool (bit kx v) (has n t.x v && some (λ b. has n t.y b && allows t v b) 32)
          (λ h. let q = r.x_only v h in
          and_from (has n t.x v) (some (λ b. has n t.y b && allows t v b) 32) q.0
          (some_from (λ b. has n t.y b && allows t v b) 32 q.1.0 (in_word (get_or n t.y 0) q.1.0 sy q.1.1) (and_from (has n t.y q.1.0) (allows t v q.1.0) q.1.1 q.1.2)))
          (λ h. let q = and_parts (has n t.x v) (some (λ b. has n t.y b && allows t v b) 32) h in
          let p = some_parts (λ b. has n t.y b && allows t v b) 32 q.1 in
          let u = and_parts (has n t.y p.0) (allows t v p.0) p.2 in
          r.x_kept v q.0 (p.0, u.0, u.1))

      on_y : bit ky v ≡ (has n t.y v && some (λ a. has n t.x a && allows t a v) 32)
      on_y = same_bool (bit ky v) (has n t.y v && some (λ a. has n t.x a && allows t a v) 32)
          (λ h. let q = r.y_only v h in
          and_from (has n t.y v) (some (λ a. has n t.x a && allows t a v) 32) q.0
          (some_from (λ a. has n t.x a && allows t a v) 32 q.1.0 (in_word (get_or n t.x 0) q.1.0 sx q.1.1) (and_from (has n t.x q.1.0) (allows t q.1.0 v) q.1.1 q.1.2)))
          (λ h. let q = and_parts (has n t.y v) (some (λ a. has n t.x a && allows t a v) 32) h in
          let p = some_parts (λ a. has n t.x a && allows t a v) 32 q.1 in
          let u = and_parts (has n t.x p.0) (allows t p.0 v) p.2 in
          r.y_kept v q.0 (p.0, u.0, u.1))

  pub differ : (dx dy : ℕ) → Change t.x (get_or n t.x 0) kx dx → Change t.y (get_or n t.y 0) ky dy → Differ n (set (set n t.x kx) t.y ky) (bit_or dx dy)
  differ dx dy cx cy = record {
    long = length-set (set n t.x kx) t.y ky ∙ length-set n t.x kx;
    same = λ i f. let p = or_parts (bit dx i) (bit dy i) (sym (bit_of_or dx dy i) ∙ f) in elim (cases_eq i t.x) [
      | inl e ↦ ap (λ (j : ℕ). get_or (set (set n t.x kx) t.y ky) j 0) e ∙ word_x ∙ cx.same (ap (bit dx) (sym e) ∙ p.0) ∙ ap (λ (j : ℕ). get_or n j 0) (sym e)
      | inr ne ↦ elim (cases_eq i t.y) [
        | inl e ↦ ap (λ (j : ℕ). get_or (set (set n t.x kx) t.y ky) j 0) e ∙ word_y ∙ cy.same (ap (bit dy) (sym e) ∙ p.1) ∙ ap (λ (j : ℕ). get_or n j 0) (sym e)
        | inr nf ↦ word_other i ne nf
      ]
    ];
    other = λ i b s. elim (or_cases (bit dx i) (bit dy i) (sym (bit_of_or dx dy i) ∙ b)) [
      | inl h ↦ let q = cx.other i h in q.1 (sym word_x ∙ ap (λ (j : ℕ). get_or (set (set n t.x kx) t.y ky) j 0) (sym q.0) ∙ s ∙ ap (λ (j : ℕ). get_or n j 0) q.0)
      | inr h ↦ let q = cy.other i h in q.1 (sym word_y ∙ ap (λ (j : ℕ). get_or (set (set n t.x kx) t.y ky) j 0) (sym q.0) ∙ s ∙ ap (λ (j : ℕ). get_or n j 0) q.0)
    ];
  }

-- nothing has changed
pub differ_none : (n : List ℕ) → Differ n n 0
differ_none n = record { long = refl; same = λ i _. refl; other = λ i b _. both_ways (bit 0 i) (bit_zero i) b }
