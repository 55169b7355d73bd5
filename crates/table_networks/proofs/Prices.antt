use Rattle.std.proofs.Common.{◌≡◌, ℕ, zero, suc, ◌+◌, ◌*◌, ◌^◌, ◌<◌, ◌≤◌, min, Bool, true, false, cond, ◌&&◌, ◌||◌, eqb, ltb, ◌⊎◌, List, [], ◌∷◌, ◌++◌, length, get_or, sym, refl, ap, ◌∙◌, subst, inl, inr, add-one, arith}
use lib.Count.{count_trailing_zeros}
use Rattle.std.proofs.lemmas.Bool.{cases_eq, cases_lt, both_ways, or_from, and_right, le-ltb}
use Rattle.std.proofs.lemmas.Bool.Decides.{nat_tests}
use Rattle.trees.specs.Trees.{StrictOrder}
use Rattle.words.specs.Words.{bit, has, Inside, Proper}
use Rattle.words.specs.Values.{values_of}
use Rattle.nodes.specs.Choosing.{Filled}
use Rattle.words.proofs.Bit.{trailing_bit, bit_zero, bit_pow_same, bit_pow_other, some_bit}
use Rattle.words.proofs.Rising.{coming, passed, all_seen}
use Rattle.std.specs.List.{Contains}
use Rattle.std.proofs.lemmas.List.Elements.{Contains-push_cases}
use Rattle.words.proofs.Inside.{in_word}
use Rattle.propagation.specs.Networks.{Assigns}
use Rattle.problems.specs.Problems.{Priced}
use Rattle.table_networks.specs.Costs.{less, Least, best, least, LeastLaw, summed, bound, cost}

-- ---- the computed least

module _ (f : ℕ → ℕ) (w : ℕ) where
  best_attained : bit w (count_trailing_zeros 32 w) ≡ true → (k : ℕ) → (v : ℕ) × (bit w v ≡ true) × (f v ≡ best f w k)
  unfolding best
  best_attained h zero = (count_trailing_zeros 32 w, h, refl)
  best_attained h (suc k) = go (bit w k) refl (best_attained h k)
    where
      go : (b : Bool) → bit w k ≡ b → (v : ℕ) × (bit w v ≡ true) × (f v ≡ best f w k) → (v : ℕ) × (bit w v ≡ true) × (f v ≡ cond b (min (f k) (best f w k)) (best f w k))
      go true e r = elim (cases_lt (f k) (best f w k)) [
        | inl l ↦ (k, e, omega arith)
        | inr g ↦ (r.0, r.1, omega (arith, r.2))
      ]
      go false e r = r

  best_lowest : (k v : ℕ) → v < k → bit w v ≡ true → best f w k ≤ f v
  unfolding best
  best_lowest zero v l h = absurd (omega arith)
  best_lowest (suc k) v l h = go (bit w k) refl (best_lowest k v)
    where
      go : (b : Bool) → bit w k ≡ b → (v < k → bit w v ≡ true → best f w k ≤ f v) → cond b (min (f k) (best f w k)) (best f w k) ≤ f v
      go b e ih = elim (cases_eq v k) [ inl s ↦ here b e s | inr ne ↦ there b (ih (omega arith) h) ]
        where
          here : (b : Bool) → bit w k ≡ b → v ≡ k → cond b (min (f k) (best f w k)) (best f w k) ≤ f v
          here true e s = omega (arith, ap f s)
          here false e s = absurd (both_ways (bit w k) e (ap (bit w) (sym s) ∙ h))

          there : (b : Bool) → best f w k ≤ f v → cond b (min (f k) (best f w k)) (best f w k) ≤ f v
          there true t = omega arith
          there false t = t

  pub least_is : w < 2 ^ 32 → (w ≡ 0 → ⊥) → Least f w (least f w)
  least_is s ne = record {
    attained = best_attained (trailing_bit 32 w (omega arith) s).1 32;
    lowest = λ v h. best_lowest 32 v (in_word w v s h) h;
  }

  pub least_unique : (b c : ℕ) → Least f w b → Least f w c → b ≡ c
  least_unique b c p q =
      let l = q.lowest p.attained.0 p.attained.1 in
      let m = p.lowest q.attained.0 q.attained.1 in
      omega (arith, p.attained.2, q.attained.2)

pub least_law : LeastLaw
least_law = (least_is, least_unique)

-- ---- a bound keeps to what it should

sum_le : (f g : ℕ → ℕ) (k : ℕ) → ((i : ℕ) → i < k → f i ≤ g i) → summed f k ≤ summed g k
unfolding summed
sum_le f g zero h = omega arith
sum_le f g (suc k) h = omega (arith, sum_le f g k (λ i l. h i (omega arith)), h k (omega arith))

sum_same : (f g : ℕ → ℕ) (k : ℕ) → ((i : ℕ) → i < k → f i ≡ g i) → summed f k ≡ summed g k
unfolding summed
sum_same f g zero h = refl
sum_same f g (suc k) h = omega (arith, sum_same f g k (λ i l. h i (omega arith)), h k (omega arith))

-- of one value the least is what it has
one_value : (f : ℕ → ℕ) (v : ℕ) → Least f (2 ^ v) (f v)
one_value f v = record { attained = (v, bit_pow_same v, refl); lowest = λ u h. same u h }
  where
    same : (u : ℕ) → bit (2 ^ v) u ≡ true → f v ≤ f u
    same u h = elim (cases_eq u v) [
      | inl e ↦ omega (arith, ap f e)
      | inr ne ↦ absurd (both_ways (bit (2 ^ v) u) (bit_pow_other v u ne) h)
    ]

module _ (f : ℕ → ℕ → ℕ) (w : ℕ) where
  exact_part : (a n : List ℕ) → Proper w n → Assigns w a n → summed (λ i. least (f i) (get_or n i 0)) w ≡ summed (λ i. f i (get_or a i 0)) w
  exact_part a n p s = sum_same (λ i. least (f i) (get_or n i 0)) (λ i. f i (get_or a i 0)) w (λ i l. at i l)
    where
      at : (i : ℕ) → i < w → least (f i) (get_or n i 0) ≡ f i (get_or a i 0)
      at i l =
          let e = s.value i l in
          let one : Least (f i) (get_or n i 0) (f i (get_or a i 0)) = (let P : ℕ → Type 0 = (λ x. Least (f i) x (f i (get_or a i 0))) in subst P (sym e) (one_value (f i) (get_or a i 0))) in
          let v = one.attained in
          least_unique (f i) (get_or n i 0) _ _ (least_is (f i) (get_or n i 0) (p.fit.small i) (λ z. both_ways (bit (get_or n i 0) v.0) (ap (λ (x : ℕ). bit x v.0) z ∙ bit_zero v.0) v.1)) one

  rises_part : (n m : List ℕ) → Proper w n → Proper w m → Inside m n → Filled w m → summed (λ i. least (f i) (get_or n i 0)) w ≤ summed (λ i. least (f i) (get_or m i 0)) w
  rises_part n m p q sub full = sum_le (λ i. least (f i) (get_or n i 0)) (λ i. least (f i) (get_or m i 0)) w (λ i l. at i l)
    where
      at : (i : ℕ) → i < w → least (f i) (get_or n i 0) ≤ least (f i) (get_or m i 0)
      at i l =
          let b = (least_is (f i) (get_or m i 0) (q.fit.small i) (full i l)).attained in
          let h = sub i b.0 b.1 in
          let a = least_is (f i) (get_or n i 0) (p.fit.small i) (λ z. both_ways (has n i b.0) (ap (λ (x : ℕ). bit x b.0) z ∙ bit_zero b.0) h) in
          omega (arith, a.lowest b.0 h, b.2)

not_less : (a b : ℕ × ℕ) → b.0 ≤ a.0 → b.1 ≤ a.1 → less a b ≡ false
not_less a b l m = or_from (ltb a.0 b.0) (eqb a.0 b.0 && ltb a.1 b.1) (le-ltb a.0 b.0 l) (and_right (eqb a.0 b.0) (ltb a.1 b.1) (le-ltb a.1 b.1 m))

ordered : StrictOrder less
ordered = record {
  irreflexive = λ a. not_less a a (omega arith) (omega arith);
  transitive = λ a b c p q. chain a.0 a.1 b.0 b.1 c.0 c.1 p q;
  total = λ a b p q. let e = same a.0 a.1 b.0 b.1 p q in ap (λ (x : ℕ). (x, a.1)) e.0 ∙ ap (λ (x : ℕ). (b.0, x)) e.1;
}
  where
    chain : (a a' b b' c c' : ℕ) → (ltb a b || (eqb a b && ltb a' b')) ≡ true → (ltb b c || (eqb b c && ltb b' c')) ≡ true → (ltb a c || (eqb a c && ltb a' c')) ≡ true
    chain a a' b b' c c' p q = grind (arith, nat_tests)

    same : (a a' b b' : ℕ) → (ltb a b || (eqb a b && ltb a' b')) ≡ false → (ltb b a || (eqb b a && ltb b' a')) ≡ false → (a ≡ b) × (a' ≡ b')
    same a a' b b' p q = (grind (arith, nat_tests), grind (arith, nat_tests))

pub priced : (stops minutes : ℕ → ℕ → ℕ) (w : ℕ) → Priced w (bound stops minutes w) (cost stops minutes w) less
priced stops minutes w = record {
  ordered = ordered;
  exact = λ a n p s. ap (λ (x : ℕ). (x, (bound stops minutes w n).1)) (exact_part stops w a n p s) ∙ ap (λ (x : ℕ). ((cost stops minutes w a).0, x)) (exact_part minutes w a n p s);
  rises = λ n m p q sub full. not_less (bound stops minutes w m) (bound stops minutes w n) (rises_part stops w n m p q sub full) (rises_part minutes w n m p q sub full);
}

-- ---- the loop over the values of a word

-- b is the least of f at the values of w that have been seen, and the largest cost where none has
pub record Seen (f : ℕ → ℕ) (w : ℕ) (seen left : List ℕ) (b : ℕ) : Type 0 where
  pub whole : values_of w ≡ seen ++ left
  pub attained : ((seen ≡ []) × (b ≡ 65535)) ⊎ ((v : ℕ) × (bit w v ≡ true) × (f v ≡ b))
  pub lowest : (v : ℕ) → Contains seen v → b ≤ f v

pub seen_none : (f : ℕ → ℕ) (w : ℕ) (left : List ℕ) → left ≡ values_of w → Seen f w [] left 65535
seen_none f w left e = record { whole = sym e; attained = inl (refl, refl); lowest = λ v h. absurd (omega (arith, h.1)) }

pub seen_more : (f : ℕ → ℕ) (w : ℕ) (seen left : List ℕ) (b v c : ℕ) (rest : List ℕ) → Seen f w seen left b → left ≡ v ∷ rest → c ≡ f v → c < 65536 → Seen f w (seen ++ v ∷ []) rest (min b c)
seen_more f w seen left b v c rest s first e l = record {
  whole = passed w v seen left rest s.whole first;
  attained = inr (elim s.attained [
    | inl p ↦ (v, here, omega (arith, p.1))
    | inr p ↦ elim (cases_lt b c) [ inl l ↦ (p.0, p.1, omega (arith, p.2)) | inr g ↦ (v, here, omega arith) ]
  ]);
  lowest = λ u h. elim (Contains-push_cases seen v u h) [ inl g ↦ omega (arith, s.lowest u g) | inr q ↦ omega (arith, ap f q) ];
}
  where
    here : bit w v ≡ true
    here = (coming w v seen left rest s.whole first).1

pub seen_all : (f : ℕ → ℕ) (w : ℕ) (seen left : List ℕ) (b : ℕ) → w < 2 ^ 32 → (w ≡ 0 → ⊥) → Seen f w seen left b → left ≡ [] → Least f w b
seen_all f w seen left b l ne s e = record {
  attained = elim s.attained [ inl p ↦ absurd (omega (arith, (all v.0 v.1).1, ap length p.0)) | inr p ↦ p ];
  lowest = λ u h. s.lowest u (all u h);
}
  where
    all : (u : ℕ) → bit w u ≡ true → Contains seen u
    all u h = all_seen w u seen left l s.whole e h

    v : (u : ℕ) × (bit w u ≡ true)
    v = some_bit w ne

-- ---- the loop over the variables

-- s and m are the least stops and minutes of the first i variables together
pub record Summed (stops minutes : ℕ → ℕ → ℕ) (n : List ℕ) (i s m : ℕ) : Type 0 where
  pub stops_are : s ≡ summed (λ j. least (stops j) (get_or n j 0)) i
  pub minutes_are : m ≡ summed (λ j. least (minutes j) (get_or n j 0)) i
  pub stops_few : s ≤ 65535 * i
  pub minutes_few : m ≤ 65535 * i

pub summed_none : (stops minutes : ℕ → ℕ → ℕ) (n : List ℕ) → Summed stops minutes n 0 0 0
unfolding summed
summed_none stops minutes n = record { stops_are = refl; minutes_are = refl; stops_few = omega arith; minutes_few = omega arith }

-- the word is not empty, so that the least is the computed one
least_same : (f : ℕ → ℕ) (w b : ℕ) → w < 2 ^ 32 → Least f w b → b ≡ least f w
least_same f w b l p =
    let v = p.attained in
    least_unique f w b (least f w) p (least_is f w l (λ z. both_ways (bit w v.0) (ap (λ (x : ℕ). bit x v.0) z ∙ bit_zero v.0) v.1))

pub summed_more : (stops minutes : ℕ → ℕ → ℕ) (n : List ℕ) (i s m a b : ℕ) → Summed stops minutes n i s m → get_or n i 0 < 2 ^ 32
    → Least (stops i) (get_or n i 0) a → Least (minutes i) (get_or n i 0) b → a < 65536 → b < 65536 → Summed stops minutes n (i + 1) (s + a) (m + b)
unfolding summed
summed_more stops minutes n i s m a b h l p q la lb =
    let e = least_same (stops i) (get_or n i 0) a l p in
    let f = least_same (minutes i) (get_or n i 0) b l q in
    record {
      stops_are = rw add-one (omega (arith, h.stops_are));
      minutes_are = rw add-one (omega (arith, h.minutes_are));
      stops_few = omega (arith, h.stops_few);
      minutes_few = omega (arith, h.minutes_few);
    }

pub summed_all : (stops minutes : ℕ → ℕ → ℕ) (n : List ℕ) (i w s m : ℕ) → i ≡ w → Summed stops minutes n i s m → (s, m) ≡ bound stops minutes w n
summed_all stops minutes n i w s m e h =
    ap (λ (x : ℕ). (x, m)) h.stops_are ∙ ap (λ (x : ℕ). ((bound stops minutes i n).0, x)) h.minutes_are ∙ ap (λ (k : ℕ). bound stops minutes k n) e
