use Rattle.std.proofs.Common.{◌≡◌, ℕ, zero, suc, ◌+◌, ◌-◌, ◌*◌, ◌/◌, ◌%◌, ◌^◌, ◌<◌, ◌≤◌, min, max, Bool, true, false, cond, not, ◌&&◌, ◌||◌, eqb, sym, refl, ap, ◌∙◌, subst, inl, inr, mul-le-mul_right, mod-eq_of_lt, mul_comm, mul-le-mul_left, pow-suc, div-one, one-add, arith, pow_pos, pow_mono}
use native.Mathlib.Nat.{div-eq_of_lt}
use lib.Count.{count_trailing_zeros, count_leading_zeros, leading_top, under, ones, ones_step, ones-ones}
use lib.Bits.{bit_and, bit_or, bit_xor, differ, and_step, or_step, xor_step, and_shr, or_shr, xor_shr}
use lib.Arith.{bin_ind}
use Rattle.std.proofs.lemmas.Nat.{shr-shr, le-div, div_below, one_shl, pow-add, pow_below, shl-shr, and_le_r, mod-pow-add, mod_below}
use Rattle.std.proofs.lemmas.Bool.{eqb-true, cases_order, cases_eq, cases_lt, cases_Bool, both_ways, and_from, and_parts, not_from_false, not-true}
use Rattle.std.proofs.lemmas.Bool.Decides.{nat_tests}
use Rattle.words.specs.Words.{bit, Lowest, Highest, Only, Without}

-- a digit, and the test of it
digit_lt : (w v : ℕ) → w / 2 ^ v % 2 < 2
digit_lt w v = mod_below (w / 2 ^ v) 2 (omega arith)

min_digit : (x y : ℕ) → x < 2 → y < 2 → eqb (min x y) 1 ≡ (eqb x 1 && eqb y 1)
min_digit x y h k = grind (arith, nat_tests)

max_digit : (x y : ℕ) → x < 2 → y < 2 → eqb (max x y) 1 ≡ (eqb x 1 || eqb y 1)
max_digit x y h k = grind (arith, nat_tests)

and_digit : (a b : ℕ) → bit_and a b % 2 ≡ min (a % 2) (b % 2)
and_digit a b = omega (arith, and_step a b, mod_below a 2 (omega arith), mod_below b 2 (omega arith))

or_digit : (a b : ℕ) → bit_or a b % 2 ≡ max (a % 2) (b % 2)
or_digit a b = omega (arith, or_step a b, mod_below a 2 (omega arith), mod_below b 2 (omega arith))

pub bit_of_and : (a b v : ℕ) → bit (bit_and a b) v ≡ (bit a v && bit b v)
unfolding bit
bit_of_and a b v =
    ap (λ (x : ℕ). eqb (x % 2) 1) (and_shr a b v) ∙ ap (λ (x : ℕ). eqb x 1) (and_digit (a / 2 ^ v) (b / 2 ^ v))
    ∙ min_digit (a / 2 ^ v % 2) (b / 2 ^ v % 2) (digit_lt a v) (digit_lt b v)

pub bit_of_or : (a b v : ℕ) → bit (bit_or a b) v ≡ (bit a v || bit b v)
unfolding bit
bit_of_or a b v =
    ap (λ (x : ℕ). eqb (x % 2) 1) (or_shr a b v) ∙ ap (λ (x : ℕ). eqb x 1) (or_digit (a / 2 ^ v) (b / 2 ^ v))
    ∙ max_digit (a / 2 ^ v % 2) (b / 2 ^ v % 2) (digit_lt a v) (digit_lt b v)

-- ---- equal bits, equal numbers

same_digit : (x y : ℕ) → x < 2 → y < 2 → eqb x 1 ≡ eqb y 1 → x ≡ y
same_digit x y h k e = grind (arith, nat_tests)

same_low : (a b k : ℕ) → ((v : ℕ) → v < k → bit a v ≡ bit b v) → a % 2 ^ k ≡ b % 2 ^ k
unfolding bit
same_low a b zero e = omega arith
same_low a b (suc k) e =
    let d : a / 2 ^ k % 2 ≡ b / 2 ^ k % 2 = same_digit (a / 2 ^ k % 2) (b / 2 ^ k % 2) (digit_lt a k) (digit_lt b k) (e k (omega arith)) in
    let r : a % 2 ^ k ≡ b % 2 ^ k = same_low a b k (λ v h. e v (omega arith)) in
    let p : a % 2 ^ (1 + k) ≡ b % 2 ^ (1 + k) = mod-pow-add a 1 k ∙ ap (λ (x : ℕ). x * 2 ^ k + a % 2 ^ k) d ∙ ap (λ (x : ℕ). b / 2 ^ k % 2 * 2 ^ k + x) r ∙ sym (mod-pow-add b 1 k) in
    rw one-add at p

pub bit_same : (k a b : ℕ) → a < 2 ^ k → b < 2 ^ k → ((v : ℕ) → v < k → bit a v ≡ bit b v) → a ≡ b
bit_same k a b h l e = sym (mod-eq_of_lt h) ∙ same_low a b k e ∙ mod-eq_of_lt l

-- ---- without a bound

pow_above : (n : ℕ) → n < 2 ^ n
pow_above zero = omega arith
pow_above (suc n) = rw pow-suc (omega (arith, pow_above n))

pub bit_ext : (a b : ℕ) → ((v : ℕ) → bit a v ≡ bit b v) → a ≡ b
bit_ext a b e =
    let h : a < 2 ^ (a + b) = omega (arith, pow_above a, pow-add 2 a b, pow_pos b, grow (2 ^ a) (2 ^ b) (pow_pos b)) in
    let l : b < 2 ^ (a + b) = omega (arith, pow_above b, pow-add 2 a b, pow_pos a, grow' (2 ^ a) (2 ^ b) (pow_pos a)) in
    bit_same (a + b) a b h l (λ v _. e v)
  where
    grow : (x y : ℕ) → 0 < y → x ≤ x * y
    grow x y h = omega (arith, mul-le-mul_left x h)

    grow' : (x y : ℕ) → 0 < x → y ≤ x * y
    grow' x y h = omega (arith, mul-le-mul_right y h)

-- ---- zero, one bit

pub bit_zero : (v : ℕ) → bit 0 v ≡ false
unfolding bit
bit_zero v = let e : 0 / 2 ^ v ≡ 0 = div-eq_of_lt (pow_pos v) in rw e

pub bit_pow_same : (k : ℕ) → bit (2 ^ k) k ≡ true
unfolding bit
bit_pow_same k = let e : 2 ^ k / 2 ^ k ≡ 1 = ap (λ (x : ℕ). x / 2 ^ k) (omega arith) ∙ shl-shr 1 k in rw e

pub bit_pow_above : (k j : ℕ) → bit (2 ^ k) (k + suc j) ≡ false
unfolding bit
bit_pow_above k j = let e : 2 ^ k / 2 ^ (k + suc j) ≡ 0 = div-eq_of_lt (pow_below k (k + suc j) (omega arith)) in rw e

pub bit_pow_below : (k j : ℕ) → bit (2 ^ (k + suc j)) k ≡ false
unfolding bit
bit_pow_below k j =
    let e : 2 ^ (k + suc j) / 2 ^ k ≡ 2 ^ suc j = ap (λ (x : ℕ). x / 2 ^ k) (pow-add 2 k (suc j) ∙ mul_comm (2 ^ k) (2 ^ suc j)) ∙ shl-shr (2 ^ suc j) k in
    let d : 2 ^ suc j % 2 ≡ 0 = omega (arith, pow-suc 2 j) in
    ap (λ (x : ℕ). eqb (x % 2) 1) e ∙ ap (λ (x : ℕ). eqb x 1) d

pub bit_pow_other : (k v : ℕ) → (v ≡ k → ⊥) → bit (2 ^ k) v ≡ false
bit_pow_other k v ne =
    elim (cases_order k v) [
      | inl e ↦ absurd (ne (sym e))
      | inr s ↦ elim s [
        | inl h ↦ let e : v ≡ k + suc (v - suc k) = omega arith in rw e (bit_pow_above k (v - suc k))
        | inr h ↦ let e : k ≡ v + suc (k - suc v) = omega arith in rw e (bit_pow_below v (k - suc v))
      ]
    ]

-- ---- the lowest bit

bit_half : (w v : ℕ) → bit w (suc v) ≡ bit (w / 2) v
unfolding bit
bit_half w v = let p = ap (λ (x : ℕ). eqb (x % 2) 1) (shr-shr w 1 v) in sym (rw one-add at p)

low_bit : (k w : ℕ) (d t : ℕ) → w % 2 ≡ d → (d ≡ 0 → (t < k) × (bit (w / 2) t ≡ true)) → (under d t < suc k) × (bit w (under d t) ≡ true)
unfolding bit
low_bit k w zero t e ih = let r = ih refl in (omega (arith, r.0), bit_half w t ∙ r.1)
low_bit k w (suc d) t e ih = (omega arith, let f : w / 1 % 2 ≡ 1 = omega (arith, div-one w) in rw f)

pub trailing_bit : (k w : ℕ) → 0 < w → w < 2 ^ k → (count_trailing_zeros k w < k) × (bit w (count_trailing_zeros k w) ≡ true)
unfolding count_trailing_zeros
trailing_bit zero w h l = absurd (omega arith)
trailing_bit (suc k) w h l =
    low_bit k w (w % 2) (count_trailing_zeros k (w / 2)) refl (λ e. trailing_bit k (w / 2) (omega arith) (omega (arith, pow-suc 2 k)))

-- a word with no bit is 0
pub bit_none : (w : ℕ) → ((v : ℕ) → bit w v ≡ false) → w ≡ 0
bit_none w e = bit_ext w 0 (λ v. e v ∙ sym (bit_zero v))

-- bits past the width
pub bit_past : (k w v : ℕ) → w < 2 ^ k → k ≤ v → bit w v ≡ false
unfolding bit
bit_past k w v h l = let e : w / 2 ^ v ≡ 0 = div-eq_of_lt (omega (arith, h, pow_mono l)) in rw e

-- ---- fewer values, smaller number; fewer by one at least, where one is gone
pub subset_and : (a b : ℕ) → ((v : ℕ) → bit a v ≡ true → bit b v ≡ true) → bit_and a b ≡ a
subset_and a b s = bit_ext (bit_and a b) a (λ v. bit_of_and a b v ∙ both (bit a v) (bit b v) (s v))
  where
    both : (x y : Bool) → (x ≡ true → y ≡ true) → (x && y) ≡ x
    both true y h = h refl
    both false y h = refl

pub subset_le : (a b : ℕ) → ((v : ℕ) → bit a v ≡ true → bit b v ≡ true) → a ≤ b
subset_le a b s = subst (λ (x : ℕ). x ≤ b) (subset_and a b s) (and_le_r a b)

bit_zeroth : (w : ℕ) → bit w 0 ≡ eqb (w % 2) 1
unfolding bit
bit_zeroth w = let e : w / 1 ≡ w = div-one w in rw e

digit_le : (x y : ℕ) → x < 2 → y < 2 → (eqb x 1 ≡ true → eqb y 1 ≡ true) → x ≤ y
digit_le x y h k s = grind (arith, nat_tests)

pub ones_mono : (a b : ℕ) → ((v : ℕ) → bit a v ≡ true → bit b v ≡ true) → ones a ≤ ones b
ones_mono a =
    bin_ind (λ (n : ℕ). (b : ℕ) → ((v : ℕ) → bit n v ≡ true → bit b v ≡ true) → ones n ≤ ones b)
    (λ b s. omega (arith, ones-ones 0))
    (λ n ih b s.
    let r : ones (n / 2) ≤ ones (b / 2) = ih (b / 2) (λ v h. sym (bit_half b v) ∙ s (suc v) (bit_half n v ∙ h)) in
    let d : n % 2 ≤ b % 2 = digit_le (n % 2) (b % 2) (omega arith) (omega arith) (λ h. sym (bit_zeroth b) ∙ s 0 (bit_zeroth n ∙ h)) in
    omega (arith, ones_step n, ones_step b)) a

pub ones_falls : (a b : ℕ) → ((v : ℕ) → bit a v ≡ true → bit b v ≡ true) → (a ≡ b → ⊥) → ones a < ones b
ones_falls a =
    bin_ind (λ (n : ℕ). (b : ℕ) → ((v : ℕ) → bit n v ≡ true → bit b v ≡ true) → (n ≡ b → ⊥) → ones n < ones b)
    (λ b s ne. omega (arith, ones-ones 0, ones_pos b (λ e. ne (sym e))))
    (λ n ih b s ne.
    let below : (v : ℕ) → bit (n / 2) v ≡ true → bit (b / 2) v ≡ true = (λ v h. sym (bit_half b v) ∙ s (suc v) (bit_half n v ∙ h)) in
    let r : ones (n / 2) ≤ ones (b / 2) = ones_mono (n / 2) (b / 2) below in
    let d : n % 2 ≤ b % 2 = digit_le (n % 2) (b % 2) (omega arith) (omega arith) (λ h. sym (bit_zeroth b) ∙ s 0 (bit_zeroth n ∙ h)) in
    elim (cases_eq (n / 2) (b / 2)) [
      | inl e ↦ omega (arith, ones_step n, ones_step b)
      | inr f ↦ let q : ones (n / 2) < ones (b / 2) = ih (b / 2) below f in omega (arith, ones_step n, ones_step b)
    ]) a
  where
    ones_pos : (b : ℕ) → (b ≡ 0 → ⊥) → 0 < ones b
    ones_pos = bin_ind (λ (n : ℕ). (n ≡ 0 → ⊥) → 0 < ones n) (λ ne. absurd (ne refl))
        (λ n ih ne. elim (cases_eq (n / 2) 0) [ inl e ↦ omega (arith, ones_step n) | inr f ↦ omega (arith, ones_step n, ih f) ])

pub some_bit : (w : ℕ) → (w ≡ 0 → ⊥) → (v : ℕ) × (bit w v ≡ true)
some_bit w ne = (count_trailing_zeros w w, (trailing_bit w w (omega arith) (pow_above w)).1)

-- ---- exclusive or, and taking one value away

differ_digit : (x y : ℕ) → x < 2 → y < 2 → eqb (differ x y) 1 ≡ cond (eqb x 1) (not (eqb y 1)) (eqb y 1)
differ_digit zero y h k = refl
differ_digit (suc zero) zero h k = refl
differ_digit (suc zero) (suc zero) h k = refl
differ_digit (suc zero) (suc (suc y)) h k = absurd (omega arith)
differ_digit (suc (suc x)) y h k = absurd (omega arith)

differ_lt : (x y : ℕ) → x < 2 → y < 2 → differ x y < 2
differ_lt zero y h k = k
differ_lt (suc zero) zero h k = omega arith
differ_lt (suc zero) (suc zero) h k = omega arith
differ_lt (suc zero) (suc (suc y)) h k = absurd (omega arith)
differ_lt (suc (suc x)) y h k = absurd (omega arith)

xor_digit : (a b : ℕ) → bit_xor a b % 2 ≡ differ (a % 2) (b % 2)
xor_digit a b = omega (arith, xor_step a b, differ_lt (a % 2) (b % 2) (mod_below a 2 (omega arith)) (mod_below b 2 (omega arith)))

pub bit_of_xor : (a b v : ℕ) → bit (bit_xor a b) v ≡ cond (bit a v) (not (bit b v)) (bit b v)
unfolding bit
bit_of_xor a b v =
    ap (λ (x : ℕ). eqb (x % 2) 1) (xor_shr a b v) ∙ ap (λ (x : ℕ). eqb x 1) (xor_digit (a / 2 ^ v) (b / 2 ^ v))
    ∙ differ_digit (a / 2 ^ v % 2) (b / 2 ^ v % 2) (digit_lt a v) (digit_lt b v)

-- w ^ (w & m) keeps the values of w that m lacks
pub bit_without : (w m v : ℕ) → bit (bit_xor w (bit_and w m)) v ≡ (bit w v && not (bit m v))
bit_without w m v = bit_of_xor w (bit_and w m) v ∙ ap (λ (x : Bool). cond (bit w v) (not x) x) (bit_of_and w m v) ∙ table (bit w v) (bit m v)
  where
    table : (x y : Bool) → cond x (not (x && y)) (x && y) ≡ (x && not y)
    table true y = refl
    table false y = refl

-- ---- what the functions on words show

low_least : (w d t u : ℕ) → w % 2 ≡ d → ((u : ℕ) → bit (w / 2) u ≡ true → t ≤ u) → bit w u ≡ true → under d t ≤ u
low_least w zero t zero e ih h = absurd (omega (arith, eqb-true (w % 2) 1 (sym (bit_zeroth w) ∙ h)))
low_least w zero t (suc u) e ih h = omega (arith, ih u (sym (bit_half w u) ∙ h))
low_least w (suc d) t u e ih h = omega arith

pub trailing_least : (k w u : ℕ) → bit w u ≡ true → count_trailing_zeros k w ≤ u
unfolding count_trailing_zeros
trailing_least zero w u h = omega arith
trailing_least (suc k) w u h = low_least w (w % 2) (count_trailing_zeros k (w / 2)) u refl (λ u h. trailing_least k (w / 2) u h) h

pub is_lowest : (w : ℕ) → (w ≡ 0 → ⊥) → w < 2 ^ 32 → Lowest w (count_trailing_zeros 32 w)
is_lowest w ne h =
    let r = trailing_bit 32 w (omega arith) h in
    record { below = r.0; there = r.1; least = trailing_least 32 w }

shl_bit : (v : ℕ) → v < 32 → (1 * 2 ^ v) % 2 ^ 32 ≡ 2 ^ v
shl_bit v h = one_shl v 32 h

pub is_only : (v : ℕ) → v < 32 → Only v ((1 * 2 ^ v) % 2 ^ 32)
is_only v h =
    let P : ℕ → Type 0 = (λ x. Only v x) in
    subst P (sym (shl_bit v h)) (record { is = refl; there = bit_pow_same v; alone = λ u b. by_eq u b })
  where
    by_eq : (u : ℕ) → bit (2 ^ v) u ≡ true → u ≡ v
    by_eq u b = elim (cases_eq u v) [ inl e ↦ e | inr ne ↦ absurd (both_ways (bit (2 ^ v) u) (bit_pow_other v u ne) b) ]

pub is_without : (w v m : ℕ) → Only v m → Without w v (bit_xor w (bit_and w m))
is_without w v m o = record {
  stays = λ u h ne. bit_without w m u ∙ and_from (bit w u) (not (bit m u)) h (not_from_false (bit m u) (gone u ne));
  only = λ u h.
      let p = and_parts (bit w u) (not (bit m u)) (sym (bit_without w m u) ∙ h) in
      (p.0, λ e. both_ways (bit m u) (not-true (bit m u) p.1) (ap (bit m) e ∙ o.there));
}
  where
    gone : (u : ℕ) → (u ≡ v → ⊥) → bit m u ≡ false
    gone u ne = elim (cases_Bool (bit m u)) [ inl t ↦ absurd (ne (o.alone u t)) | inr f ↦ f ]

-- a word falls as a number when a value is taken away: the measure of a loop over its values
pub without_less : (w v r : ℕ) → Without w v r → bit w v ≡ true → r < w
without_less w v r o h =
    let le : r ≤ w = subset_le r w (λ u b. (o.only u b).0) in
    let ne : r ≡ w → ⊥ = (λ e. (o.only v (ap (λ (x : ℕ). bit x v) e ∙ h)).1 refl) in
    omega arith

top_bit : (a j : ℕ) → 2 ^ j ≤ a → a < 2 ^ suc j → bit a j ≡ true
unfolding bit
top_bit a j l h =
    let lo : 1 ≤ a / 2 ^ j = le-div 1 a (2 ^ j) (pow_pos j) (omega arith) in
    let hi : a / 2 ^ j < 2 = div_below a (2 ^ j) 2 (pow_pos j) (omega (arith, pow-suc 2 j)) in
    let e : a / 2 ^ j % 2 ≡ 1 = omega arith in
    rw e

pub is_highest : (w : ℕ) → (w ≡ 0 → ⊥) → w < 2 ^ 32 → (count_leading_zeros 32 w ≤ 31) × Highest w (31 - count_leading_zeros 32 w)
is_highest w ne h =
    let t = leading_top 32 w (omega arith) h in
    let P : ℕ → Type 0 = (λ x. Highest w x) in
    let e : t.0 ≡ 31 - count_leading_zeros 32 w = omega (arith, t.1) in (
      omega (arith, t.1),
      subst P e (record {
        below = omega (arith, t.1);
        there = top_bit w t.0 t.2 t.3;
        most = λ u b. elim (cases_lt u (suc t.0)) [ inl l ↦ omega arith | inr g ↦ absurd (both_ways (bit w u) (bit_past (suc t.0) w u t.3 g) b) ];
      }),
    )

-- a value past the width is not there to be taken away
pub without_past : (k w v : ℕ) → w < 2 ^ k → k ≤ v → Without w v (bit_xor w (bit_and w 0))
without_past k w v h l = record {
  stays = λ u b ne. bit_without w 0 u ∙ and_from (bit w u) (not (bit 0 u)) b (not_from_false (bit 0 u) (bit_zero u));
  only = λ u b.
      let p = and_parts (bit w u) (not (bit 0 u)) (sym (bit_without w 0 u) ∙ b) in
      (p.0, λ e. both_ways (bit w u) (ap (bit w) e ∙ bit_past k w v h l) p.0);
}
