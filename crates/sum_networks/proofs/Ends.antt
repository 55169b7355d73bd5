use Rattle.std.proofs.Common.{◌≡◌, ℕ, zero, suc, ◌*◌, ◌/◌, ◌%◌, ◌^◌, ◌<◌, ◌≤◌, Bool, true, false, cond, not, ℤ, pos, negsuc, ◌*ℤ◌, ◌≤ℤ◌, ◌<ℤ◌, sym, refl, ap, ◌∙◌, subst, inl, inr, mul-le-mul_left, pow-suc, arith, pow_pos}
use lib.Count.{leading_top}
use lib.Signed.{le_z, lt_z}
use Rattle.std.proofs.lemmas.Nat.{le-div, div_below}
use Rattle.std.proofs.lemmas.Int.{ints}
use Rattle.std.proofs.lemmas.Bool.{cases_lt, cases_eq, both_ways}
use Rattle.words.specs.Words.{bit}
use Rattle.words.proofs.Bit.{trailing_bit, trailing_least, bit_past, bit_pow_same, bit_pow_other, bit_zero, some_bit}
use Rattle.sum_networks.specs.Sums.{Most, Least, largest, smallest_product, lowest_value, highest_value}

pow_above : (n : ℕ) → n < 2 ^ n
pow_above zero = omega arith
pow_above (suc n) = rw pow-suc (omega (arith, pow_above n))

top_bit : (a j : ℕ) → 2 ^ j ≤ a → a < 2 ^ suc j → bit a j ≡ true
unfolding bit
top_bit a j l h =
    let lo : 1 ≤ a / 2 ^ j = le-div 1 a (2 ^ j) (pow_pos j) (omega arith) in
    let hi : a / 2 ^ j < 2 = div_below a (2 ^ j) 2 (pow_pos j) (omega (arith, pow-suc 2 j)) in
    let e : a / 2 ^ j % 2 ≡ 1 = omega arith in
    rw e

-- ---- the two ends of a word

low_there : (w : ℕ) → (w ≡ 0 → ⊥) → bit w (lowest_value w) ≡ true
low_there w ne = (trailing_bit w w (omega arith) (pow_above w)).1

high_top : (w : ℕ) → (w ≡ 0 → ⊥) → (2 ^ highest_value w ≤ w) × (w < 2 ^ suc (highest_value w))
high_top w ne =
    let t = leading_top w w (omega arith) (pow_above w) in
    let e : t.0 ≡ highest_value w = omega (arith, t.1) in
    let P : ℕ → Type 0 = (λ j. (2 ^ j ≤ w) × (w < 2 ^ suc j)) in
    subst P e (t.2, t.3)

high_there : (w : ℕ) → (w ≡ 0 → ⊥) → bit w (highest_value w) ≡ true
high_there w ne = let t = high_top w ne in top_bit w (highest_value w) t.0 t.1

high_most : (w u : ℕ) → (w ≡ 0 → ⊥) → bit w u ≡ true → u ≤ highest_value w
high_most w u ne b = elim (cases_lt u (suc (highest_value w))) [
  | inl l ↦ omega arith
  | inr g ↦ absurd (both_ways (bit w u) (bit_past (suc (highest_value w)) w u (high_top w ne).1 g) b)
]

not_zero : (w v : ℕ) → bit w v ≡ true → w ≡ 0 → ⊥
not_zero w v b z = both_ways (bit w v) (ap (λ (x : ℕ). bit x v) z ∙ bit_zero v) b

pub low_is : (w v : ℕ) → bit w v ≡ true → ((u : ℕ) → bit w u ≡ true → v ≤ u) → v ≡ lowest_value w
low_is w v b least = omega (arith, least (lowest_value w) (low_there w (not_zero w v b)), trailing_least w w v b)

pub high_is : (w v : ℕ) → bit w v ≡ true → ((u : ℕ) → bit w u ≡ true → u ≤ v) → v ≡ highest_value w
high_is w v b most = omega (arith, most (highest_value w) (high_there w (not_zero w v b)), high_most w v (not_zero w v b) b)

-- ---- products at the ends

-- a product grows with the value, or falls
rises : (c : ℤ) (u v : ℕ) → pos 0 ≤ℤ c → u ≤ v → (c *ℤ pos u) ≤ℤ (c *ℤ pos v)
rises (pos a) u v s h = let m : a * u ≤ a * v = mul-le-mul_left a h in omega (arith, ints)
rises (negsuc a) u v s h = absurd (omega (arith, ints))

drops : (c : ℤ) (u v : ℕ) → c <ℤ pos 0 → u ≤ v → (c *ℤ pos v) ≤ℤ (c *ℤ pos u)
drops (pos a) u v s h = absurd (omega (arith, ints))
drops (negsuc a) u v s h = let m : suc a * u ≤ suc a * v = mul-le-mul_left (suc a) h in omega (arith, ints)

pub lt_z_true : (a b : ℤ) → lt_z a b ≡ true → a <ℤ b
lt_z_true a b e = grind (arith, ints)

pub lt_z_false : (a b : ℤ) → lt_z a b ≡ false → b ≤ℤ a
lt_z_false a b e = grind (arith, ints)

pub le_z_true : (a b : ℤ) → le_z a b ≡ true → a ≤ℤ b
le_z_true a b e = grind (arith, ints)

pub le_le_z : (a b : ℤ) → a ≤ℤ b → le_z a b ≡ true
le_le_z a b h = grind (arith, ints)

module _ (c : ℤ) (w : ℕ) (ne : w ≡ 0 → ⊥) where
  pub largest_is : Most c w (largest c w)
  unfolding largest
  largest_is = go (lt_z c (pos 0)) refl
    where
      go : (b : Bool) → lt_z c (pos 0) ≡ b → Most c w (c *ℤ pos (cond b (lowest_value w) (highest_value w)))
      go true e = record { value = lowest_value w; there = low_there w ne; is = refl; bound = λ u h. drops c (lowest_value w) u (lt_z_true c (pos 0) e) (trailing_least w w u h) }
      go false e = record { value = highest_value w; there = high_there w ne; is = refl; bound = λ u h. rises c u (highest_value w) (lt_z_false c (pos 0) e) (high_most w u ne h) }

  pub smallest_is : Least c w (smallest_product c w)
  unfolding smallest_product
  smallest_is = go (lt_z c (pos 0)) refl
    where
      go : (b : Bool) → lt_z c (pos 0) ≡ b → Least c w (c *ℤ pos (cond (not b) (lowest_value w) (highest_value w)))
      go true e = record { value = highest_value w; there = high_there w ne; is = refl; bound = λ u h. drops c u (highest_value w) (lt_z_true c (pos 0) e) (high_most w u ne h) }
      go false e = record { value = lowest_value w; there = low_there w ne; is = refl; bound = λ u h. rises c (lowest_value w) u (lt_z_false c (pos 0) e) (trailing_least w w u h) }

-- ---- what follows from the words alone

-- fewer values, a smaller largest product and a larger least one
pub most_le : (c : ℤ) (a b : ℕ) (x y : ℤ) → ((v : ℕ) → bit a v ≡ true → bit b v ≡ true) → Most c a x → Most c b y → x ≤ℤ y
most_le c a b x y f p q = let P : ℤ → Type 0 = (λ z. z ≤ℤ y) in subst P (sym p.is) (q.bound p.value (f p.value p.there))

pub least_le : (c : ℤ) (a b : ℕ) (x y : ℤ) → ((v : ℕ) → bit a v ≡ true → bit b v ≡ true) → Least c a x → Least c b y → y ≤ℤ x
least_le c a b x y f p q = let P : ℤ → Type 0 = (λ z. y ≤ℤ z) in subst P (sym p.is) (q.bound p.value (f p.value p.there))

pub most_unique : (c : ℤ) (w : ℕ) (a b : ℤ) → Most c w a → Most c w b → a ≡ b
most_unique c w a b x y = omega (arith, ints, most_le c w w a b (λ v h. h) x y, most_le c w w b a (λ v h. h) y x)

-- a word that is not 0 has no fewer values than none
pub filled_up : (a b : ℕ) → ((v : ℕ) → bit a v ≡ true → bit b v ≡ true) → (a ≡ 0 → ⊥) → b ≡ 0 → ⊥
filled_up a b f ne = let s = some_bit a ne in not_zero b s.0 (f s.0 s.1)

-- a word of one value
pub pow_only : (v u : ℕ) → bit (2 ^ v) u ≡ true → u ≡ v
pow_only v u b = elim (cases_eq u v) [ inl e ↦ e | inr ne ↦ absurd (both_ways (bit (2 ^ v) u) (bit_pow_other v u ne) b) ]

pub pow_filled : (v : ℕ) → 2 ^ v ≡ 0 → ⊥
pow_filled v = not_zero (2 ^ v) v (bit_pow_same v)

pub largest_pow : (c : ℤ) (v : ℕ) → largest c (2 ^ v) ≡ c *ℤ pos v
largest_pow c v = let m = largest_is c (2 ^ v) (pow_filled v) in m.is ∙ ap (λ (u : ℕ). c *ℤ pos u) (pow_only v m.value m.there)

pub smallest_pow : (c : ℤ) (v : ℕ) → smallest_product c (2 ^ v) ≡ c *ℤ pos v
smallest_pow c v = let m = smallest_is c (2 ^ v) (pow_filled v) in m.is ∙ ap (λ (u : ℕ). c *ℤ pos u) (pow_only v m.value m.there)

-- a coefficient 0 gives 0 whatever the word
pub largest_none : (w : ℕ) → largest (pos 0) w ≡ pos 0
unfolding largest
largest_none w = ap pos (omega arith)
