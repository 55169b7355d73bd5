use Rattle.std.proofs.Common.{◌≡◌, ℕ, zero, suc, ◌+◌, ◌*◌, ◌^◌, ◌<◌, ◌≤◌, Bool, true, false, cond, eqb, ltb, List, length, take, get_or, sym, refl, ap, ◌∙◌, subst, inl, inr, arith, pow_pos}
use lib.Count.{ones, ones_cat, ones-le, ones-ones, count_trailing_zeros}
use Rattle.std.proofs.lemmas.Bool.{or_parts, eqb-false, cases_eq, cases_lt, cases_Bool, both_ways, lt-ltb, le-ltb, cond_both, cond-true, cond-false}
use Rattle.std.proofs.lemmas.Nat.{pow_below}
use Rattle.std.proofs.lemmas.List.{get_or_past, length-take}
use Rattle.std.specs.List.{sum_by, count_by}
use Rattle.std.proofs.lemmas.List.Sums.{sum_by-append}
use Rattle.std.proofs.Math.Seq.{take-suc}
use Rattle.words.specs.Words.{bit, Inside, Fit}
use Rattle.nodes.specs.Choosing.{Filled, Empty, empty_below, surplus, wide, rest, reach}
use Rattle.words.proofs.Bit.{bit_zero, bit_pow_other, trailing_bit, ones_mono, ones_falls}
use Rattle.nodes.proofs.Emptiness.{empty_from, empty_some, filled_none, none_filled}
use Rattle.words.proofs.Inside.{inside_le}

-- ---- the values of one word

pub ones_none : ones 0 ≡ 0
ones_none = ones-ones 0

pub ones_pos : (w : ℕ) → (w ≡ 0 → ⊥) → 0 < ones w
ones_pos w ne = omega (arith, ones_falls 0 w (λ v h. absurd (both_ways (bit 0 v) (bit_zero v) h)) (λ e. ne (sym e)), ones_none)

pub ones_zero : (w : ℕ) → ones w ≡ 0 → w ≡ 0
ones_zero w e = elim (cases_eq w 0) [ inl z ↦ z | inr ne ↦ absurd (omega (arith, ones_pos w ne)) ]

pub ones_most : (w : ℕ) → w < 2 ^ 32 → ones w ≤ 32
ones_most w h = ones-le 32 w h

pub ones_pow : (v : ℕ) → ones (2 ^ v) ≡ 1
ones_pow v =
    let e : 2 ^ v ≡ 1 * 2 ^ v + 0 = omega arith in
    ap ones e ∙ ones_cat v 1 0 (pow_pos v) ∙ omega (arith, ones-ones 1, ones_none)

-- a power of two has one value
pub pow_value : (v u : ℕ) → bit (2 ^ v) u ≡ true → u ≡ v
pow_value v u h = elim (cases_eq u v) [ inl e ↦ e | inr ne ↦ absurd (both_ways (bit (2 ^ v) u) (bit_pow_other v u ne) h) ]

-- a word with one value is the power of two of that value
pub one_value : (w : ℕ) → w < 2 ^ 32 → ones w ≡ 1 → w ≡ 2 ^ count_trailing_zeros 32 w
one_value w h e =
    let pos : 0 < w = elim (cases_eq w 0) [ inl z ↦ absurd (omega (arith, ap ones z, ones_none)) | inr ne ↦ omega arith ] in
    let v = count_trailing_zeros 32 w in
    let there : bit w v ≡ true = (trailing_bit 32 w pos h).1 in
    elim (cases_eq (2 ^ v) w) [
      | inl s ↦ sym s
      | inr ne ↦ absurd (omega (arith, ones_pow v, ones_falls (2 ^ v) w (λ u b. ap (bit w) (pow_value v u b) ∙ there) ne))
    ]

pub trailing_pow : (v : ℕ) → v < 32 → count_trailing_zeros 32 (2 ^ v) ≡ v
trailing_pow v l = pow_value v (count_trailing_zeros 32 (2 ^ v)) (trailing_bit 32 (2 ^ v) (pow_pos v) (pow_below v 32 l)).1

-- ---- nodes inside one another

pub ones_inside : (m n : List ℕ) → Inside m n → (i : ℕ) → ones (get_or m i 0) ≤ ones (get_or n i 0)
ones_inside m n s i = ones_mono (get_or m i 0) (get_or n i 0) (s i)

pub filled_up : (w : ℕ) (m n : List ℕ) → Inside m n → Filled w m → Filled w n
filled_up w m n s f i l e = f i l (omega (arith, inside_le m n s i))

pub empty_down : (w : ℕ) (m n : List ℕ) → Inside m n → Empty w n → Empty w m
empty_down w m n s e = (e.0, e.1, omega (arith, inside_le m n s e.0, e.2))

pub filled_ones : (w : ℕ) (n : List ℕ) → Filled w n → (i : ℕ) → i < w → 0 < ones (get_or n i 0)
filled_ones w n f i l = ones_pos (get_or n i 0) (f i l)

-- ---- how large the counts are

pub surplus_most : (k : ℕ) (n : List ℕ) → Fit n → surplus n k ≤ 31 * k
unfolding surplus
surplus_most zero n f = omega arith
surplus_most (suc k) n f = omega (arith, surplus_most k n f, ones_most (get_or n k 0) (f.small k))

one_or_none : (b : Bool) → cond b 1 0 ≤ 1
one_or_none true = omega arith
one_or_none false = omega arith

pub wide_most : (k : ℕ) (n : List ℕ) → wide n k ≤ k
unfolding wide
wide_most zero n = omega arith
wide_most (suc k) n = omega (arith, wide_most k n, one_or_none (ltb 1 (ones (get_or n k 0))))

pub rest_most : (w : ℕ) (n : List ℕ) → w ≤ 32 → Fit n → rest w n ≤ 992
rest_most w n l f = cond_both (empty_below w n) 0 (surplus n w) (λ x. x ≤ 992) (λ _. omega arith) (λ _. omega (arith, surplus_most w n f))

pub reach_most : (w : ℕ) (n : List ℕ) → w ≤ 32 → reach w n ≤ 32
reach_most w n l = cond_both (empty_below w n) 0 (wide n w) (λ x. x ≤ 32) (λ _. omega arith) (λ _. omega (arith, wide_most w n))

-- ---- fewer values, smaller counts

pub surplus_mono : (k : ℕ) (m n : List ℕ) → Inside m n → surplus m k ≤ surplus n k
unfolding surplus
surplus_mono zero m n s = omega arith
surplus_mono (suc k) m n s = omega (arith, surplus_mono k m n s, ones_inside m n s k)

wide_step : (a b : ℕ) → a ≤ b → cond (ltb 1 a) 1 0 ≤ cond (ltb 1 b) 1 0
wide_step a b h = elim (cases_lt 1 a) [
  | inl l ↦ omega (arith, cond-true {A = ℕ} (ltb 1 a) 1 0 (lt-ltb 1 a l), cond-true {A = ℕ} (ltb 1 b) 1 0 (lt-ltb 1 b (omega arith)))
  | inr g ↦ omega (arith, cond-false {A = ℕ} (ltb 1 a) 1 0 (le-ltb 1 a g))
]

pub wide_mono : (k : ℕ) (m n : List ℕ) → Inside m n → wide m k ≤ wide n k
unfolding wide
wide_mono zero m n s = omega arith
wide_mono (suc k) m n s = omega (arith, wide_mono k m n s, wide_step (ones (get_or m k 0)) (ones (get_or n k 0)) (ones_inside m n s k))

-- a count that is 0 at a failed node
count_mono : (w : ℕ) (m n : List ℕ) (x y : ℕ) → Inside m n → x ≤ y → cond (empty_below w m) 0 x ≤ cond (empty_below w n) 0 y
count_mono w m n x y s h = elim (cases_Bool (empty_below w m)) [
  | inl t ↦ omega (arith, cond-true (empty_below w m) 0 x t)
  | inr f ↦ elim (cases_Bool (empty_below w n)) [
    | inl t ↦ (let e = empty_down w m n s (empty_some w n t) in absurd (both_ways (empty_below w m) f (empty_from w m e.0 e.1 e.2)))
    | inr g ↦ omega (arith, cond-false (empty_below w m) 0 x f, cond-false (empty_below w n) 0 y g)
  ]
]

pub rest_mono : (w : ℕ) (m n : List ℕ) → Inside m n → rest w m ≤ rest w n
rest_mono w m n s = count_mono w m n (surplus m w) (surplus n w) s (surplus_mono w m n s)

pub reach_mono : (w : ℕ) (m n : List ℕ) → Inside m n → reach w m ≤ reach w n
reach_mono w m n s = count_mono w m n (wide m w) (wide n w) s (wide_mono w m n s)

pub rest_is : (w : ℕ) (n : List ℕ) → Filled w n → rest w n ≡ surplus n w
rest_is w n f = cond-false (empty_below w n) 0 (surplus n w) (filled_none w n f)

pub reach_is : (w : ℕ) (n : List ℕ) → Filled w n → reach w n ≡ wide n w
reach_is w n f = cond-false (empty_below w n) 0 (wide n w) (filled_none w n f)

-- ---- where a word has lost a value

pub surplus_falls : (k : ℕ) (m n : List ℕ) → Inside m n → Filled k m → (x : ℕ) → x < k → ones (get_or m x 0) < ones (get_or n x 0) → surplus m k < surplus n k
unfolding surplus
surplus_falls zero m n s f x l h = absurd (omega arith)
surplus_falls (suc k) m n s f x l h = elim (cases_eq x k) [
  | inl e ↦
      (let p : ones (get_or m k 0) < ones (get_or n k 0) = subst (λ (i : ℕ). ones (get_or m i 0) < ones (get_or n i 0)) e h in
      omega (arith, surplus_mono k m n s, filled_ones (suc k) m f k (omega arith)))
  | inr ne ↦ omega (arith, surplus_falls k m n s (λ i q. f i (omega arith)) x (omega arith) h, ones_inside m n s k)
]

pub wide_falls : (k : ℕ) (m n : List ℕ) → Inside m n → (x : ℕ) → x < k → ones (get_or m x 0) ≤ 1 → 1 < ones (get_or n x 0) → wide m k < wide n k
unfolding wide
wide_falls zero m n s x l g h = absurd (omega arith)
wide_falls (suc k) m n s x l g h = elim (cases_eq x k) [
  | inl e ↦
      (let p : ones (get_or m k 0) ≤ 1 = subst (λ (i : ℕ). ones (get_or m i 0) ≤ 1) e g in
      let q : 1 < ones (get_or n k 0) = subst (λ (i : ℕ). 1 < ones (get_or n i 0)) e h in
      omega (arith, wide_mono k m n s, cond-false {A = ℕ} (ltb 1 (ones (get_or m k 0))) 1 0 (le-ltb 1 _ p), cond-true {A = ℕ} (ltb 1 (ones (get_or n k 0))) 1 0 (lt-ltb 1 _ q)))
  | inr ne ↦ omega (arith, wide_falls k m n s x (omega arith) g h, wide_step (ones (get_or m k 0)) (ones (get_or n k 0)) (ones_inside m n s k))
]

pub rest_falls : (w : ℕ) (m n : List ℕ) → Inside m n → Filled w m → (x : ℕ) → x < w → ones (get_or m x 0) < ones (get_or n x 0) → rest w m < rest w n
rest_falls w m n s f x l h = omega (arith, rest_is w m f, rest_is w n (filled_up w m n s f), surplus_falls w m n s f x l h)

pub reach_falls : (w : ℕ) (m n : List ℕ) → Inside m n → Filled w m → (x : ℕ) → x < w → ones (get_or m x 0) ≤ 1 → 1 < ones (get_or n x 0) → reach w m < reach w n
reach_falls w m n s f x l g h = omega (arith, reach_is w m f, reach_is w n (filled_up w m n s f), wide_falls w m n s x l g h)

-- ---- where a word has more than one value

pub surplus_pos : (k : ℕ) (n : List ℕ) (x : ℕ) → x < k → 1 < ones (get_or n x 0) → 0 < surplus n k
unfolding surplus
surplus_pos zero n x l h = absurd (omega arith)
surplus_pos (suc k) n x l h = elim (cases_eq x k) [
  | inl e ↦ (let p : 1 < ones (get_or n k 0) = subst (λ (i : ℕ). 1 < ones (get_or n i 0)) e h in omega arith)
  | inr ne ↦ omega (arith, surplus_pos k n x (omega arith) h)
]

pub wide_pos : (k : ℕ) (n : List ℕ) (x : ℕ) → x < k → 1 < ones (get_or n x 0) → 0 < wide n k
unfolding wide
wide_pos zero n x l h = absurd (omega arith)
wide_pos (suc k) n x l h = elim (cases_eq x k) [
  | inl e ↦
      (let p : 1 < ones (get_or n k 0) = subst (λ (i : ℕ). 1 < ones (get_or n i 0)) e h in
      omega (arith, cond-true {A = ℕ} (ltb 1 (ones (get_or n k 0))) 1 0 (lt-ltb 1 _ p)))
  | inr ne ↦ omega (arith, wide_pos k n x (omega arith) h)
]

pub rest_pos : (w : ℕ) (n : List ℕ) → Filled w n → (x : ℕ) → x < w → 1 < ones (get_or n x 0) → 0 < rest w n
rest_pos w n f x l h = omega (arith, rest_is w n f, surplus_pos w n x l h)

pub reach_pos : (w : ℕ) (n : List ℕ) → Filled w n → (x : ℕ) → x < w → 1 < ones (get_or n x 0) → 0 < reach w n
reach_pos w n f x l h = omega (arith, reach_is w n f, wide_pos w n x l h)

-- ---- a node has no more than thirty-two variables to fill

pub narrow : (w : ℕ) (n : List ℕ) → length n ≡ 32 → Filled w n → w ≤ 32
narrow w n e f = elim (cases_lt 32 w) [ inl l ↦ absurd (f 32 l (get_or_past n 32 0 (omega arith))) | inr g ↦ g ]

-- a variable of a filled node is one of them
pub within : (w : ℕ) (n : List ℕ) (i : ℕ) → length n ≡ 32 → false ≡ empty_below w n → i < w → i < 32
within w n i e f l = omega (arith, narrow w n e (none_filled w n (sym f)))

-- ---- the counts as folds over the first words

pub surplus_sum : (w : ℕ) (n : List ℕ) → w ≤ length n → empty_below w n ≡ false → sum_by ones (take w n) ≡ surplus n w + w
unfolding surplus
surplus_sum zero n h f = refl
surplus_sum (suc k) n h f =
    let q = or_parts (eqb (get_or n k 0) 0) (empty_below k n) f in
    let p : 0 < ones (get_or n k 0) = ones_pos (get_or n k 0) (eqb-false (get_or n k 0) 0 q.0) in
    rw (take-suc n k 0 (omega arith), sum_by-append ones) (omega (arith, surplus_sum k n (omega arith) q.1))

pub wide_count : (w : ℕ) (n : List ℕ) → w ≤ length n → count_by (λ x. ltb 1 (ones x)) (take w n) ≡ wide n w
unfolding wide
wide_count zero n h = refl
wide_count (suc k) n h = rw (take-suc n k 0 (omega arith), sum_by-append (λ x. cond (ltb 1 (ones x)) 1 0)) (omega (arith, wide_count k n (omega arith)))

-- the same at what a look at the first words gives
module _ (w : ℕ) (n ws : List ℕ) (long : length n ≡ 32) (h : w ≤ 32) (e : ws ≡ take w n) (f : empty_below w n ≡ false) where
  pub rest_sum : sum_by ones ws ≡ rest w n + length ws
  rest_sum = ap (sum_by ones) e ∙ surplus_sum w n (omega arith) f ∙ omega (arith, cond-false (empty_below w n) 0 (surplus n w) f, ap length e, length-take w n)

  pub reach_count : count_by (λ x. ltb 1 (ones x)) ws ≡ reach w n
  reach_count = ap (count_by (λ x. ltb 1 (ones x))) e ∙ wide_count w n (omega arith) ∙ sym (cond-false (empty_below w n) 0 (wide n w) f)
