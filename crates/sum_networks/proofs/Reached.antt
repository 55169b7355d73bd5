use Rattle.std.proofs.Common.{◌≡◌, ℕ, suc, ◌*◌, ◌^◌, ◌<◌, ◌≤◌, ◌++◌, List, [], ◌∷◌, Bool, true, false, cond, not, ◌&&◌, ℤ, pos, negsuc, ◌*ℤ◌, ◌≤ℤ◌, ◌<ℤ◌, sym, ap, ◌∙◌, subst, inl, inr, arith, w32, w64, SFits, to_z, of_z}
use lib.Signed.{le_z, lt_z}
use Rattle.std.proofs.lemmas.Nat.{mul-le}
use Rattle.std.proofs.lemmas.Int.{ints, to_z-of_z}
use Rattle.std.proofs.lemmas.Bool.{and_from, and_parts}
use Rattle.std.specs.List.{Contains}
use Rattle.std.proofs.lemmas.List.Elements.{Contains-push_cases}
use Rattle.words.specs.Words.{bit, Without}
use Rattle.words.specs.Values.{values_of}
use Rattle.words.proofs.Rising.{passed, all_seen}
use Rattle.words.proofs.Inside.{same_bool, in_word}
use Rattle.records.specs.Sums.{Small}
use Rattle.sum_networks.specs.Sums.{largest, smallest_product, product_at, lowest_value, highest_value}
use Rattle.sum_networks.specs.Steps.{Reaching}
use Rattle.sum_networks.proofs.Ends.{le_z_true, le_le_z, lt_z_true, lt_z_false, largest_is, smallest_is}

-- ---- the limits of a product

pub product_high : (c : ℤ) (v : ℕ) → Small c → v < 32 → (c *ℤ pos v) ≤ℤ pos 31000000
product_high (pos a) v s h = let m : a * v ≤ 1000000 * 31 = mul-le a v 1000000 31 (omega (arith, ints)) (omega arith) in omega (arith, ints)
product_high (negsuc a) v s h = omega (arith, ints)

pub product_low : (c : ℤ) (v : ℕ) → Small c → v < 32 → negsuc 30999999 ≤ℤ (c *ℤ pos v)
product_low (pos a) v s h = omega (arith, ints)
product_low (negsuc a) v s h = let m : suc a * v ≤ 1000000 * 31 = mul-le (suc a) v 1000000 31 (omega (arith, ints)) (omega arith) in omega (arith, ints)

pub wide_fits : (z : ℤ) → negsuc 9999999999 ≤ℤ z → z ≤ℤ pos 10000000000 → SFits w64 z
wide_fits (pos a) l h = record { sfits = omega (arith, ints) }
wide_fits (negsuc a) l h = record { sfits = omega (arith, ints) }

-- ---- what the checker shows of signed numbers

pub lt_of : (a p n : ℤ) → SFits w64 a → a ≡ p → lt_z (to_z w64 (of_z w64 a)) n ≡ true → p <ℤ n
lt_of a p n f e t = lt_z_true p n (ap (λ (x : ℤ). lt_z x n) (sym e ∙ sym (to_z-of_z w64 a f)) ∙ t)

pub le_of : (a p n : ℤ) → SFits w64 a → a ≡ p → lt_z (to_z w64 (of_z w64 a)) n ≡ false → n ≤ℤ p
le_of a p n f e t = lt_z_false p n (ap (λ (x : ℤ). lt_z x n) (sym e ∙ sym (to_z-of_z w64 a f)) ∙ t)

-- ---- the values of a word that reach the need

pub all_reach : (c : ℤ) (w : ℕ) (need : ℤ) → (w ≡ 0 → ⊥) → need ≤ℤ smallest_product c w → Reaching c w need w
all_reach c w need ne h v =
    same_bool (bit w v) (bit w v && le_z need (c *ℤ pos v))
    (λ b. and_from (bit w v) (le_z need (c *ℤ pos v)) b (le_le_z need (c *ℤ pos v) (join (smallest_product c w) (c *ℤ pos v) h ((smallest_is c w ne).bound v b))))
    (λ b. (and_parts (bit w v) (le_z need (c *ℤ pos v)) b).0)
  where
    join : (a b : ℤ) → need ≤ℤ a → a ≤ℤ b → need ≤ℤ b
    join a b h k = omega (arith, ints)

-- the values that have been seen, of which those that reach the need stay
pub record Seen (c : ℤ) (w : ℕ) (need : ℤ) (seen left : List ℕ) (supported : ℕ) : Type 0 where
  pub whole : values_of w ≡ seen ++ left
  pub only : (v : ℕ) → bit supported v ≡ true → bit w v ≡ true
  pub stays : (v : ℕ) → bit w v ≡ true → need ≤ℤ (c *ℤ pos v) → bit supported v ≡ true
  pub reach : (v : ℕ) → Contains seen v → bit supported v ≡ true → need ≤ℤ (c *ℤ pos v)

pub start : (c : ℤ) (w : ℕ) (need : ℤ) (left : List ℕ) → left ≡ values_of w → Seen c w need [] left w
start c w need left e = record { whole = sym e; only = λ v h. h; stays = λ v h _. h; reach = λ v h _. absurd (omega (arith, h.1)) }

pub finish : (c : ℤ) (w : ℕ) (need : ℤ) (seen left : List ℕ) (supported : ℕ) → w < 2 ^ 32 → left ≡ [] → Seen c w need seen left supported → Reaching c w need supported
finish c w need seen left supported l e s v =
    same_bool (bit supported v) (bit w v && le_z need (c *ℤ pos v))
    (λ h. let b = s.only v h in and_from (bit w v) (le_z need (c *ℤ pos v)) b (le_le_z need (c *ℤ pos v) (s.reach v (all_seen w v seen left l s.whole e b) h)))
    (λ h. let q = and_parts (bit w v) (le_z need (c *ℤ pos v)) h in s.stays v q.0 (le_z_true need (c *ℤ pos v) q.1))

module _ (c : ℤ) (w : ℕ) (need : ℤ) (seen left : List ℕ) (supported a : ℕ) (rest : List ℕ) (s : Seen c w need seen left supported) (first : left ≡ a ∷ rest) where
  pub reaches : need ≤ℤ (c *ℤ pos a) → Seen c w need (seen ++ a ∷ []) rest supported
  reaches h = record {
    whole = passed w a seen left rest s.whole first;
    only = s.only;
    stays = s.stays;
    reach = λ v t b. elim (Contains-push_cases seen a v t) [ inl g ↦ s.reach v g b | inr e ↦ (let P : ℕ → Type 0 = (λ x. need ≤ℤ (c *ℤ pos x)) in subst P e h) ];
  }

  pub misses : (c *ℤ pos a) <ℤ need → (supported' : ℕ) → Without supported a supported' → Seen c w need (seen ++ a ∷ []) rest supported'
  misses h supported' out = record {
    whole = passed w a seen left rest s.whole first;
    only = λ v t. s.only v (out.only v t).0;
    stays = λ v t r. out.stays v (s.stays v t r) (λ e. (let P : ℕ → Type 0 = (λ x. need ≤ℤ (c *ℤ pos x)) in clash (subst P e r)));
    reach = λ v t b. let q = out.only v b in elim (Contains-push_cases seen a v t) [ inl g ↦ s.reach v g q.0 | inr e ↦ absurd (q.1 (sym e)) ];
  }
    where
      clash : need ≤ℤ (c *ℤ pos a) → ⊥
      clash r = omega (arith, ints)

-- ---- the product at an end of a word

pub small_fits : (c : ℤ) → Small c → SFits w32 c
small_fits (pos a) s = record { sfits = omega (arith, ints) }
small_fits (negsuc a) s = record { sfits = omega (arith, ints) }

module _ (c r : ℤ) (w v : ℕ) (b : Bool) (small : Small c) (fit : SFits w64 r) (is : r ≡ c *ℤ pos v) (sign : lt_z (to_z w32 (of_z w32 c)) (pos 0) ≡ b) where
  below : lt_z c (pos 0) ≡ b
  below = ap (λ (z : ℤ). lt_z z (pos 0)) (sym (to_z-of_z w32 c (small_fits c small))) ∙ sign

  product_is : (u : ℕ) → v ≡ u → to_z w64 (of_z w64 r) ≡ c *ℤ pos u
  product_is u e = to_z-of_z w64 r fit ∙ is ∙ ap (λ (x : ℕ). c *ℤ pos x) e

  pub largest_at : v ≡ cond b (lowest_value w) (highest_value w) → to_z w64 (of_z w64 r) ≡ largest c w
  unfolding largest
  largest_at e = product_is _ e ∙ ap (λ (x : Bool). product_at x c w) (sym below)

  pub smallest_at : v ≡ cond (not b) (lowest_value w) (highest_value w) → to_z w64 (of_z w64 r) ≡ smallest_product c w
  unfolding smallest_product
  smallest_at e = product_is _ e ∙ ap (λ (x : Bool). product_at (not x) c w) (sym below)

pub not_below : (z : ℤ) → le_z (pos 0) z ≡ true → lt_z z (pos 0) ≡ false
not_below z e = grind (arith, ints)

pub is_below : (z : ℤ) → le_z (pos 0) z ≡ false → lt_z z (pos 0) ≡ true
is_below z e = grind (arith, ints)

pub above : (n r c : ℤ) (w : ℕ) (m : ℤ) → m ≡ n → SFits w64 r → r ≡ smallest_product c w → le_z m (to_z w64 (of_z w64 r)) ≡ true → n ≤ℤ smallest_product c w
above n r c w m e f p t =
    let P : ℤ → Type 0 = (λ z. n ≤ℤ z) in
    let Q : ℤ → Type 0 = (λ z. z ≤ℤ to_z w64 (of_z w64 r)) in
    subst P (to_z-of_z w64 r f ∙ p) (subst Q e (le_z_true m (to_z w64 (of_z w64 r)) t))

-- ---- the limits of the products at the ends

-- within the limits of a product
abbrev pub Few : ℤ → Type 0
Few z = (negsuc 30999999 ≤ℤ z) × (z ≤ℤ pos 31000000)

module _ (c : ℤ) (w : ℕ) (z : ℤ) (small : Small c) (fits : w < 2 ^ 32) (ne : w ≡ 0 → ⊥) where
  few : (v : ℕ) (t : ℤ) → bit w v ≡ true → t ≡ c *ℤ pos v → z ≡ t → Few z
  few v t h e q =
      let l = in_word w v fits h in
      let P : ℤ → Type 0 = (λ x. Few x) in
      subst P (sym (q ∙ e)) (product_low c v small l, product_high c v small l)

  pub largest_few : z ≡ largest c w → Few z
  largest_few e = let m = largest_is c w ne in few m.value _ m.there m.is e

  pub smallest_few : z ≡ smallest_product c w → Few z
  smallest_few e = let m = smallest_is c w ne in few m.value _ m.there m.is e
