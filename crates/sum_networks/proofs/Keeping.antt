use Rattle.std.proofs.Common.{◌≡◌, ℕ, zero, suc, ◌<◌, ◌≤◌, true, false, ◌&&◌, ltb, List, get_or, ℤ, pos, negsuc, ◌+ℤ◌, ◌*ℤ◌, ◌≤ℤ◌, sym, refl, ap, ◌∙◌, inl, inr, arith}
use lib.Signed.{le_z, lt_z}
use Rattle.std.proofs.lemmas.Int.{ints}
use Rattle.std.proofs.lemmas.Bool.{cases_lt, cases_Bool, both_ways, and_from, and_parts, lt-ltb, le-ltb, cond-true, cond-false}
use Rattle.trees.specs.Trees.{StrictOrder}
use Rattle.words.specs.Words.{bit, has, Inside}
use Rattle.nodes.specs.Choosing.{Filled}
use Rattle.words.proofs.Bit.{bit_pow_same}
use Rattle.propagation.specs.Networks.{Assigns, Sane}
use Rattle.propagation.proofs.Closures.{those_has}
use Rattle.problems.specs.Problems.{Priced}
use Rattle.sum_networks.specs.Sums.{Sum, SupportLaw, BoundLaw, summed, summed_but, largest, smallest_product, totals, rest, others, sum_supports, counts, mask, total_of, sums_network, least_total}
use Rattle.sum_networks.proofs.Ends.{lt_z_false, le_z_true, le_le_z, largest_is, smallest_is, most_le, least_le, filled_up, pow_only, pow_filled, largest_pow, smallest_pow, largest_none}
use Rattle.sum_networks.proofs.Summing.{summed_same, summed_le, but_le, rest_is, others_from, others_parts}

le_trans : (a b c : ℤ) → a ≤ℤ b → b ≤ℤ c → a ≤ℤ c
le_trans a b c h k = omega (arith, ints)

same_le : (a b : ℤ) → a ≡ b → a ≤ℤ b
same_le a b e = omega (arith, ints)

onto : (r x a b : ℤ) → a ≤ℤ b → r ≤ℤ (x +ℤ a) → r ≤ℤ (x +ℤ b)
onto r x a b h k = omega (arith, ints)

-- ---- support, taken apart and put together

module _ (s : Sum) (width : ℕ) (n : List ℕ) (i v : ℕ) where
  reach : ℤ
  reach = (s.coefficient i *ℤ pos v) +ℤ rest s.coefficient n i width

  pub supports_past : width ≤ i → sum_supports s width n i v ≡ true
  unfolding sum_supports
  supports_past g = cond-false (ltb i width) (others n i width && le_z s.least ((s.coefficient i *ℤ pos v) +ℤ rest s.coefficient n i width)) true (le-ltb i width g)

  pub supports_is : i < width → sum_supports s width n i v ≡ (others n i width && le_z s.least ((s.coefficient i *ℤ pos v) +ℤ rest s.coefficient n i width))
  unfolding sum_supports
  supports_is l = cond-true (ltb i width) (others n i width && le_z s.least ((s.coefficient i *ℤ pos v) +ℤ rest s.coefficient n i width)) true (lt-ltb i width l)

  pub supports_parts : i < width → sum_supports s width n i v ≡ true
      → ((j : ℕ) → j < width → (j ≡ i → ⊥) → get_or n j 0 ≡ 0 → ⊥) × (s.least ≤ℤ ((s.coefficient i *ℤ pos v) +ℤ rest s.coefficient n i width))
  supports_parts l h =
      let q = and_parts (others n i width) (le_z s.least ((s.coefficient i *ℤ pos v) +ℤ rest s.coefficient n i width)) (sym (supports_is l) ∙ h) in
      (others_parts n i width q.0, le_z_true s.least ((s.coefficient i *ℤ pos v) +ℤ rest s.coefficient n i width) q.1)

  pub supports_from : i < width → ((j : ℕ) → j < width → (j ≡ i → ⊥) → get_or n j 0 ≡ 0 → ⊥)
      → s.least ≤ℤ ((s.coefficient i *ℤ pos v) +ℤ rest s.coefficient n i width) → sum_supports s width n i v ≡ true
  supports_from l f h = supports_is l ∙ and_from (others n i width) (le_z s.least ((s.coefficient i *ℤ pos v) +ℤ rest s.coefficient n i width)) (others_from n i width f) (le_le_z s.least ((s.coefficient i *ℤ pos v) +ℤ rest s.coefficient n i width) h)

pub support_law : (s : Sum) (width : ℕ) → SupportLaw s width
support_law s width n fit i v l = (
  λ h. let q = supports_parts s width n i v l h in
      (q.0, ((λ j. largest (s.coefficient j) (get_or n j 0)), (λ j m ne. largest_is (s.coefficient j) (get_or n j 0) (q.0 j m ne)), q.1)),
  λ q. supports_from s width n i v l q.0
      (onto s.least (s.coefficient i *ℤ pos v) (summed_but q.1.0 i width) (rest s.coefficient n i width)
      (but_le q.1.0 (λ j. largest (s.coefficient j) (get_or n j 0)) i width
      (λ j m ne. most_le (s.coefficient j) (get_or n j 0) (get_or n j 0) (q.1.0 j) (largest (s.coefficient j) (get_or n j 0)) (λ v h. h) (q.1.1 j m ne) (largest_is (s.coefficient j) (get_or n j 0) (q.0 j m ne))))
      q.1.2),
)

pub bound_law : (c : ℕ → ℤ) (width : ℕ) → BoundLaw c width
unfolding least_total
bound_law c width n f = ((λ j. smallest_product (c j) (get_or n j 0)), (λ j l. smallest_is (c j) (get_or n j 0) (f j l)), refl)

-- ---- what constraints keep to

counts_none : (c : ℤ) → counts c ≡ false → c ≡ pos 0
counts_none (pos zero) h = refl
counts_none (pos (suc a)) h = absurd (both_ways true h refl)
counts_none (negsuc a) h = absurd (both_ways true h refl)

module _ (width : ℕ) (count : ℕ) (sum : ℕ → Sum) where
  grows : (k i v : ℕ) (a b : List ℕ) → Inside a b → sum_supports (sum k) width a i v ≡ true → sum_supports (sum k) width b i v ≡ true
  grows k i v a b f h = elim (cases_lt i width) [
    | inr g ↦ supports_past (sum k) width b i v g
    | inl l ↦ (let q = supports_parts (sum k) width a i v l h in
        supports_from (sum k) width b i v l (λ j m ne. filled_up (get_or a j 0) (get_or b j 0) (f j) (q.0 j m ne))
        (onto (sum k).least ((sum k).coefficient i *ℤ pos v) (rest (sum k).coefficient a i width) (rest (sum k).coefficient b i width)
        (but_le (λ j. largest ((sum k).coefficient j) (get_or a j 0)) (λ j. largest ((sum k).coefficient j) (get_or b j 0)) i width
        (λ j m ne. most_le ((sum k).coefficient j) (get_or a j 0) (get_or b j 0) (largest ((sum k).coefficient j) (get_or a j 0)) (largest ((sum k).coefficient j) (get_or b j 0)) (f j)
        (largest_is ((sum k).coefficient j) (get_or a j 0) (q.0 j m ne))
        (largest_is ((sum k).coefficient j) (get_or b j 0) (filled_up (get_or a j 0) (get_or b j 0) (f j) (q.0 j m ne)))))
        q.1))
  ]

  same_largest : (k : ℕ) (a b : List ℕ) → ((j : ℕ) → bit (mask (sum k) width) j ≡ true → get_or a j 0 ≡ get_or b j 0) → (j : ℕ) → j < width
      → largest ((sum k).coefficient j) (get_or a j 0) ≡ largest ((sum k).coefficient j) (get_or b j 0)
  unfolding mask
  same_largest k a b f j l = elim (cases_Bool (counts ((sum k).coefficient j))) [
    | inl t ↦ ap (λ (w : ℕ). largest ((sum k).coefficient j) w) (f j (those_has (λ i. counts ((sum k).coefficient i)) width j l t))
    | inr n ↦ (let z = counts_none ((sum k).coefficient j) n in
        ap (λ (c : ℤ). largest c (get_or a j 0)) z ∙ largest_none (get_or a j 0) ∙ sym (largest_none (get_or b j 0)) ∙ ap (λ (c : ℤ). largest c (get_or b j 0)) (sym z))
  ]

  near : (k i v : ℕ) (a b : List ℕ) → Filled width a → Filled width b → ((j : ℕ) → bit (mask (sum k) width) j ≡ true → get_or a j 0 ≡ get_or b j 0)
      → sum_supports (sum k) width a i v ≡ true → sum_supports (sum k) width b i v ≡ true
  near k i v a b fa fb f h = elim (cases_lt i width) [
    | inr g ↦ supports_past (sum k) width b i v g
    | inl l ↦ supports_from (sum k) width b i v l (λ j m ne. fb j m)
        (onto (sum k).least ((sum k).coefficient i *ℤ pos v) (rest (sum k).coefficient a i width) (rest (sum k).coefficient b i width)
        (but_le (λ j. largest ((sum k).coefficient j) (get_or a j 0)) (λ j. largest ((sum k).coefficient j) (get_or b j 0)) i width
        (λ j m ne. same_le (largest ((sum k).coefficient j) (get_or a j 0)) (largest ((sum k).coefficient j) (get_or b j 0)) (same_largest k a b f j m)))
        (supports_parts (sum k) width a i v l h).1)
  ]

-- at an assignment the total of the largest products is its total, and that is what each value reaches
assigned_total : (c : ℕ → ℤ) (width : ℕ) (a o : List ℕ) → Assigns width a o → totals c o width ≡ total_of c width a
unfolding total_of
assigned_total c width a o h =
    summed_same (λ j. largest (c j) (get_or o j 0)) (λ j. c j *ℤ pos (get_or a j 0)) width
    (λ j l. ap (λ (w : ℕ). largest (c j) w) (h.value j l) ∙ largest_pow (c j) (get_or a j 0))

swap : (t r x : ℤ) → t ≡ r +ℤ x → x +ℤ r ≡ t
swap t r x e = omega (arith, ints)

assigned_reach : (c : ℕ → ℤ) (width : ℕ) (a o : List ℕ) → Assigns width a o → (i v : ℕ) → i < width → v ≡ get_or a i 0
    → (c i *ℤ pos v) +ℤ rest c o i width ≡ total_of c width a
assigned_reach c width a o h i v l e =
    swap (totals c o width) (rest c o i width) (c i *ℤ pos v)
    (rest_is (λ j. largest (c j) (get_or o j 0)) i width l
    ∙ ap (λ (z : ℤ). rest c o i width +ℤ z) (ap (λ (w : ℕ). largest (c i) w) (h.value i l) ∙ largest_pow (c i) (get_or a i 0) ∙ ap (λ (u : ℕ). c i *ℤ pos u) (sym e)))
    ∙ assigned_total c width a o h

module _ (s : Sum) (width : ℕ) (a o : List ℕ) (h : Assigns width a o) where
  met : 0 < width → ((i v : ℕ) → has o i v ≡ true → sum_supports s width o i v ≡ true) → le_z s.least (total_of s.coefficient width a) ≡ true
  met l q =
      le_le_z s.least (total_of s.coefficient width a)
      (le_trans s.least ((s.coefficient 0 *ℤ pos (get_or a 0 0)) +ℤ rest s.coefficient o 0 width) (total_of s.coefficient width a)
      (supports_parts s width o 0 (get_or a 0 0) l (q 0 (get_or a 0 0) (ap (λ (w : ℕ). bit w (get_or a 0 0)) (h.value 0 l) ∙ bit_pow_same (get_or a 0 0)))).1
      (same_le ((s.coefficient 0 *ℤ pos (get_or a 0 0)) +ℤ rest s.coefficient o 0 width) (total_of s.coefficient width a) (assigned_reach s.coefficient width a o h 0 (get_or a 0 0) l refl)))

  holds : le_z s.least (total_of s.coefficient width a) ≡ true → (i v : ℕ) → has o i v ≡ true → sum_supports s width o i v ≡ true
  holds m i v b = elim (cases_lt i width) [
    | inr g ↦ supports_past s width o i v g
    | inl l ↦ supports_from s width o i v l (λ j k ne z. pow_filled (get_or a j 0) (sym (h.value j k) ∙ z))
        (le_trans s.least (total_of s.coefficient width a) ((s.coefficient i *ℤ pos v) +ℤ rest s.coefficient o i width)
        (le_z_true s.least (total_of s.coefficient width a) m)
        (same_le (total_of s.coefficient width a) ((s.coefficient i *ℤ pos v) +ℤ rest s.coefficient o i width)
        (sym (assigned_reach s.coefficient width a o h i v l (pow_only (get_or a i 0) v (ap (λ (w : ℕ). bit w v) (sym (h.value i l)) ∙ b))))))
  ]

pub sums_sane : (width count : ℕ) (sum : ℕ → Sum) → 0 < width → Sane (sums_network width count sum)
sums_sane width count sum l = record {
  grows = grows width count sum;
  «local» = near width count sum;
  met = λ k _ a o h q. met (sum k) width a o h l q;
  holds = λ k _ a o h m. holds (sum k) width a o h m;
}

-- ---- costs

signed_order : StrictOrder lt_z
signed_order = record {
  irreflexive = λ a. grind (arith, ints);
  transitive = λ a b c h k. grind (arith, ints);
  total = λ a b h k. apart a b (lt_z_false a b h) (lt_z_false b a k);
}
  where
    apart : (a b : ℤ) → b ≤ℤ a → a ≤ℤ b → a ≡ b
    apart a b h k = omega (arith, ints)

not_less : (a b : ℤ) → b ≤ℤ a → lt_z a b ≡ false
not_less a b h = grind (arith, ints)

pub sums_priced : (c : ℕ → ℤ) (width : ℕ) → Priced width (least_total c width) (total_of c width) lt_z
unfolding least_total total_of
sums_priced c width = record {
  ordered = signed_order;
  exact = λ a n p h. summed_same (λ j. smallest_product (c j) (get_or n j 0)) (λ j. c j *ℤ pos (get_or a j 0)) width
      (λ j l. ap (λ (w : ℕ). smallest_product (c j) w) (h.value j l) ∙ smallest_pow (c j) (get_or a j 0));
  rises = λ n m p q f ne. not_less (summed (λ j. smallest_product (c j) (get_or m j 0)) width) (summed (λ j. smallest_product (c j) (get_or n j 0)) width)
      (summed_le (λ j. smallest_product (c j) (get_or n j 0)) (λ j. smallest_product (c j) (get_or m j 0)) width
      (λ j l. least_le (c j) (get_or m j 0) (get_or n j 0) (smallest_product (c j) (get_or m j 0)) (smallest_product (c j) (get_or n j 0)) (f j)
      (smallest_is (c j) (get_or m j 0) (ne j l)) (smallest_is (c j) (get_or n j 0) (filled_up (get_or m j 0) (get_or n j 0) (f j) (ne j l)))));
}
