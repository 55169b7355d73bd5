use Rattle.std.proofs.Common.{◌≡◌, ℕ, zero, suc, ◌+◌, ◌^◌, ◌<◌, ◌≤◌, Bool, true, false, cond, ◌&&◌, ltb, List, ◌++◌, length, get_or, set, take, drop, ℤ, pos, negsuc, ◌+ℤ◌, ◌-ℤ◌, ◌*ℤ◌, ◌≤ℤ◌, sym, refl, ap, ◌∙◌, subst, inl, inr, add-zero, add-one, arith, w64, to_z, of_z}
use lib.Signed.{le_z}
use lib.Bits.{bit_or}
use Rattle.std.proofs.lemmas.List.{get_or-set_same, get_or-set_other, get_or_append_left, get_or-append_right, length-set, length-append, length-take, take-append-drop, ext_get_or, get_or_past}
use Rattle.std.proofs.lemmas.Nat.{or_comm}
use Rattle.std.proofs.lemmas.Int.{ints, to_z-of_z}
use Rattle.std.proofs.lemmas.Bool.{cases_eq, cases_lt, cases_Bool, both_ways, or_cases, or_parts, and_right, le-ltb, cond-false}
use Rattle.words.specs.Words.{bit, has, Change, Proper}
use Rattle.nodes.specs.Choosing.{Filled, Empty}
use Rattle.words.proofs.Bit.{bit_of_or, bit_zero}
use Rattle.words.proofs.Inside.{same_bool}
use Rattle.propagation.specs.Closing.{words, those}
use Rattle.records.specs.Sums.{sum_width, Moderate}
use Rattle.sum_networks.specs.Sums.{Sum, largest, smallest_product, totals, least_total, rest, sum_supports, summed, counts, mask}
use Rattle.sum_networks.specs.Files.{start_of}
use Rattle.sum_networks.specs.Steps.{Kept, Reaching, reaches}
use Rattle.sum_networks.proofs.Ends.{le_z_true, le_le_z}
use Rattle.sum_networks.proofs.Reached.{wide_fits}
use Rattle.sum_networks.proofs.Summing.{rest_is, others_from}
use Rattle.sum_networks.proofs.Keeping.{supports_is, supports_past, supports_parts}

-- ---- one word after another

pub none_yet : (passes : ℕ → ℕ → Bool) (n : List ℕ) → Kept passes n n 0 0
none_yet passes n = record {
  done = λ j v l. absurd (omega arith);
  ahead = λ j l. refl;
  differ = record { long = refl; same = λ i f. refl; other = λ i t. absurd (both_ways (bit 0 i) (bit_zero i) t) };
}

module _ (passes : ℕ → ℕ → Bool) (n m out : List ℕ) (i d k ch : ℕ) (written : out ≡ set m i k) (long : i < length m) (s : Kept passes n m i d)
    (cut : (v : ℕ) → bit k v ≡ (has m i v && passes i v)) (c : Change i (get_or m i 0) k ch) where
  here : get_or (set m i k) i 0 ≡ k
  here = get_or-set_same m i k 0 long

  was : get_or m i 0 ≡ get_or n i 0
  was = s.ahead i (omega arith)

  after : Kept passes n (set m i k) (i + 1) (bit_or d ch)
  after = record {
    done = λ j v h. elim (cases_eq j i) [
      | inl q ↦ ap (λ (x : ℕ). has (set m i k) x v) q ∙ ap (λ (w : ℕ). bit w v) here ∙ cut v ∙ ap (λ (w : ℕ). bit w v && passes i v) was ∙ ap (λ (x : ℕ). has n x v && passes x v) (sym q)
      | inr ne ↦ ap (λ (w : ℕ). bit w v) (get_or-set_other m i j k 0 ne) ∙ s.done j v (omega arith)
    ];
    ahead = λ j h. get_or-set_other m i j k 0 (λ q. omega arith) ∙ s.ahead j (omega arith);
    differ = record {
      long = length-set m i k ∙ s.differ.long;
      same = λ j f. let p = or_parts (bit d j) (bit ch j) (sym (bit_of_or d ch j) ∙ f) in elim (cases_eq j i) [
        | inl q ↦ ap (λ (x : ℕ). get_or (set m i k) x 0) q ∙ here ∙ c.same (ap (bit ch) (sym q) ∙ p.1) ∙ was ∙ ap (λ (x : ℕ). get_or n x 0) (sym q)
        | inr ne ↦ get_or-set_other m i j k 0 ne ∙ s.differ.same j p.0
      ];
      other = λ j t q. elim (or_cases (bit d j) (bit ch j) (sym (bit_of_or d ch j) ∙ t)) [
        | inl h ↦ elim (cases_eq j i) [
          | inl z ↦ s.differ.other i (ap (bit d) (sym z) ∙ h) was
          | inr ne ↦ s.differ.other j h (sym (get_or-set_other m i j k 0 ne) ∙ q)
        ]
        | inr h ↦ let z = c.other j h in z.1 (sym here ∙ ap (λ (x : ℕ). get_or (set m i k) x 0) (sym z.0) ∙ q ∙ ap (λ (x : ℕ). get_or n x 0) z.0 ∙ sym was)
      ];
    };
  }

  pub one_more : Kept passes n out (i + 1) (bit_or d ch)
  one_more = let P : List ℕ → Type 0 = (λ x. Kept passes n x (i + 1) (bit_or d ch)) in subst P (sym written) after

-- the words before a place are cut, and the others stay behind them
module _ (passes : ℕ → ℕ → Bool) (a m r : List ℕ) (w d : ℕ) (la : length a ≡ w) (s : Kept passes a m w d) where
  lm : length m ≡ w
  lm = s.differ.long ∙ la

  front : (x : List ℕ) → length x ≡ w → (j : ℕ) → j < w → get_or (x ++ r) j 0 ≡ get_or x j 0
  front x l j h = get_or_append_left x r 0 j (omega (arith, l))

  behind : (j : ℕ) → w ≤ j → get_or (m ++ r) j 0 ≡ get_or (a ++ r) j 0
  behind j g = get_or-append_right m r w j 0 lm g ∙ sym (get_or-append_right a r w j 0 la g)

  with_others : Kept passes (a ++ r) (m ++ r) w d
  with_others = record {
    done = λ j v l. ap (λ (x : ℕ). bit x v) (front m lm j l) ∙ s.done j v l ∙ ap (λ (x : ℕ). bit x v && passes j v) (sym (front a la j l));
    ahead = behind;
    differ = record {
      long = omega (arith, length-append m r, length-append a r, lm, la);
      same = λ j f. elim (cases_lt j w) [ inl l ↦ front m lm j l ∙ s.differ.same j f ∙ sym (front a la j l) | inr g ↦ behind j g ];
      other = λ j t e. elim (cases_lt j w) [
        | inl l ↦ s.differ.other j t (sym (front m lm j l) ∙ e ∙ front a la j l)
        | inr g ↦ s.differ.other j t (get_or_past m j 0 (omega (arith, lm)) ∙ sym (get_or_past a j 0 (omega (arith, la))))
      ];
    };
  }

pub joined : (passes : ℕ → ℕ → Bool) (n m : List ℕ) (w d : ℕ) → w ≤ length n → Kept passes (take w n) m w d → Kept passes n (m ++ drop w n) w d
joined passes n m w d l s =
    let P : List ℕ → Type 0 = (λ x. Kept passes x (m ++ drop w n) w d) in
    subst P (take-append-drop w n) (with_others passes (take w n) m (drop w n) w d (omega (arith, length-take w n)) s)

-- nothing stays in an empty word
pub no_bit : (w v : ℕ) → bit 0 v ≡ (bit w v && false)
no_bit w v = bit_zero v ∙ sym (and_right (bit w v) false refl)

-- ---- the values that reach the sum

-- what is short of the sum, with the largest product of the word itself added again
moved : (r t l x s : ℤ) → t ≡ s +ℤ l → le_z ((r -ℤ t) +ℤ l) x ≡ le_z r (x +ℤ s)
moved r t l x s e = same_bool (le_z ((r -ℤ t) +ℤ l) x) (le_z r (x +ℤ s))
    (λ h. le_le_z r (x +ℤ s) (let q = le_z_true ((r -ℤ t) +ℤ l) x h in omega (arith, ints)))
    (λ h. le_le_z ((r -ℤ t) +ℤ l) x (let q = le_z_true r (x +ℤ s) h in omega (arith, ints)))

pub reached : (s : Sum) (width : ℕ) (n m : List ℕ) (i : ℕ) (need : ℤ) (k : ℕ) → i < width → get_or m i 0 ≡ get_or n i 0
    → need ≡ (s.least -ℤ totals s.coefficient n width) +ℤ largest (s.coefficient i) (get_or m i 0) → Reaching (s.coefficient i) (get_or m i 0) need k
    → (v : ℕ) → bit k v ≡ (has m i v && reaches s width n i v)
reached s width n m i need k l q e reach v =
    reach v ∙ ap (λ (z : ℤ). has m i v && le_z z (s.coefficient i *ℤ pos v)) e
    ∙ ap (λ (t : Bool). has m i v && t) (moved s.least (totals s.coefficient n width) (largest (s.coefficient i) (get_or m i 0)) (s.coefficient i *ℤ pos v) (rest s.coefficient n i width) split)
  where
    split : totals s.coefficient n width ≡ rest s.coefficient n i width +ℤ largest (s.coefficient i) (get_or m i 0)
    split = rest_is (λ j. largest (s.coefficient j) (get_or n j 0)) i width l ∙ ap (λ (w : ℕ). rest s.coefficient n i width +ℤ largest (s.coefficient i) w) (sym q)

-- ---- the two ways to a revised node

all : (s t : Bool) → t ≡ true → s ≡ (s && t)
all true t e = sym e
all false t e = refl

module _ (s : Sum) (width : ℕ) (n m : List ℕ) (d : ℕ) where
  past : (passes : ℕ → ℕ → Bool) → Kept passes n m width d → (i v : ℕ) → width ≤ i → has m i v ≡ (has n i v && sum_supports s width n i v)
  past passes q i v g = ap (λ (w : ℕ). bit w v) (q.ahead i g) ∙ all (has n i v) (sum_supports s width n i v) (supports_past s width n i v g)

  pub narrowed : Filled width n → Kept (reaches s width n) n m width d → (i v : ℕ) → has m i v ≡ (has n i v && sum_supports s width n i v)
  narrowed f q i v = elim (cases_lt i width) [
    | inr g ↦ past (reaches s width n) q i v g
    | inl l ↦ q.done i v l ∙ ap (λ (t : Bool). has n i v && t)
        (sym (supports_is s width n i v l ∙ ap (λ (b : Bool). b && reaches s width n i v) (others_from n i width (λ j k ne. f j k))))
  ]

  -- where a word is empty, no value of another is supported
  pub cleared : Empty width n → Kept (λ _ _. false) n m width d → (i v : ℕ) → has m i v ≡ (has n i v && sum_supports s width n i v)
  cleared e q i v = elim (cases_lt i width) [
    | inr g ↦ past (λ _ _. false) q i v g
    | inl l ↦ q.done i v l ∙ both l (has n i v) refl
  ]
    where
      none : i < width → has n i v ≡ true → sum_supports s width n i v ≡ true → ⊥
      none l b t = (supports_parts s width n i v l t).0 e.0 e.1
          (λ z. both_ways (has n i v) (ap (λ (j : ℕ). has n j v) (sym z) ∙ ap (λ (w : ℕ). bit w v) e.2 ∙ bit_zero v) b) e.2

      both : i < width → (x : Bool) → has n i v ≡ x → (x && false) ≡ (x && sum_supports s width n i v)
      both l false b = refl
      both l true b = elim (cases_Bool (sum_supports s width n i v)) [ inl t ↦ absurd (none l b t) | inr f ↦ sym f ]

-- ---- the set of the variables of a sum

counts_some : (c : ℤ) → (c ≡ pos 0 → ⊥) → counts c ≡ true
counts_some (pos zero) ne = absurd (ne refl)
counts_some (pos (suc a)) ne = refl
counts_some (negsuc a) ne = refl

pub mask_yes : (s : Sum) (i t o : ℕ) → t ≡ mask s i → o ≡ 2 ^ i → (s.coefficient i ≡ pos 0 → ⊥) → bit_or t o ≡ mask s (i + 1)
unfolding mask
mask_yes s i t o e p ne =
    rw add-one (or_comm t o ∙ ap (λ (x : ℕ). bit_or x t) p ∙ ap (λ (x : ℕ). bit_or (2 ^ i) x) e
    ∙ ap (λ (b : Bool). bit_or (cond b (2 ^ i) 0) (those (λ j. counts (s.coefficient j)) i)) (sym (counts_some (s.coefficient i) ne)))

pub mask_no : (s : Sum) (i t : ℕ) → t ≡ mask s i → s.coefficient i ≡ pos 0 → t ≡ mask s (i + 1)
unfolding mask
mask_no s i t e z = rw add-one (e ∙ ap (λ (c : ℤ). bit_or (cond (counts c) (2 ^ i) 0) (those (λ j. counts (s.coefficient j)) i)) (sym z))

-- ---- the start words

length_words : (f : ℕ → ℕ) (k i : ℕ) → length (words f k i) ≡ k
length_words f zero i = refl
length_words f (suc k) i = ap suc (length_words f k (suc i))

get_or_words : (f : ℕ → ℕ) (k i j : ℕ) → j < k → get_or (words f k i) j 0 ≡ f (i + j)
get_or_words f zero i j h = absurd (omega arith)
get_or_words f (suc k) i zero h = ap f (sym (add-zero i))
get_or_words f (suc k) i (suc j) h = get_or_words f k (suc i) j (omega arith) ∙ ap f (omega arith)

pub start_clear : (w j : ℕ) → w ≤ j → ◌≡◌ {A = ℕ} (cond (ltb j w) 3 0) 0
start_clear w j h = cond-false (ltb j w) 3 0 (le-ltb j w h)

pub start_words : (w : ℕ) (ws : List ℕ) → w ≤ 32 → length ws ≡ 32 → ((i : ℕ) → i < 32 → get_or ws i 0 ≡ cond (ltb i w) 3 0) → (j : ℕ) → get_or ws j 0 ≡ cond (ltb j w) 3 0
start_words w ws few long each j = elim (cases_lt j 32) [
  | inl l ↦ each j l
  | inr g ↦ get_or_past ws j 0 (omega (arith, long)) ∙ sym (start_clear w j (omega arith))
]

pub start_done : (bs ws : List ℕ) → length ws ≡ 32 → ((j : ℕ) → get_or ws j 0 ≡ cond (ltb j (sum_width bs)) 3 0) → ws ≡ start_of bs
unfolding start_of
start_done bs ws l h =
    ext_get_or 0 ws (words (λ i. cond (ltb i (sum_width bs)) 3 0) 32 0) (l ∙ sym (length_words (λ i. cond (ltb i (sum_width bs)) 3 0) 32 0))
    (λ j m. h j ∙ ap (λ (x : ℕ). cond (ltb x (sum_width bs)) 3 0) (omega arith) ∙ sym (get_or_words (λ i. cond (ltb i (sum_width bs)) 3 0) 32 0 j (omega arith)))

-- ---- the turns of the loops that add

pub total_more : (c : ℕ → ℤ) (n : List ℕ) (j : ℕ) (s m x : ℤ) → s ≡ totals c n j → m ≡ largest x (get_or n j 0) → x ≡ c j → s +ℤ m ≡ totals c n (j + 1)
total_more c n j s m x e f g = rw add-one (ap (λ (z : ℤ). z +ℤ m) e ∙ ap (λ (z : ℤ). totals c n j +ℤ z) (f ∙ ap (λ (y : ℤ). largest y (get_or n j 0)) g))

pub least_more : (c : ℕ → ℤ) (n : List ℕ) (j : ℕ) (s m x : ℤ) → s ≡ least_total c j n → m ≡ smallest_product x (get_or n j 0) → x ≡ c j → s +ℤ m ≡ least_total c (j + 1) n
unfolding least_total
least_more c n j s m x e f g = rw add-one (ap (λ (z : ℤ). z +ℤ m) e ∙ ap (λ (z : ℤ). summed (λ i. smallest_product (c i) (get_or n i 0)) j +ℤ z) (f ∙ ap (λ (y : ℤ). smallest_product y (get_or n j 0)) g))

pub need_is : (f t m k : ℤ) → f ≡ k → Moderate k → negsuc 991999999 ≤ℤ t → t ≤ℤ pos 992000000 → negsuc 30999999 ≤ℤ m → m ≤ℤ pos 31000000 → (a b c : ℤ) → k ≡ a → t ≡ b → m ≡ c
    → to_z w64 (of_z w64 (to_z w64 (of_z w64 (to_z w64 (of_z w64 f) -ℤ to_z w64 (of_z w64 t))) +ℤ to_z w64 (of_z w64 m))) ≡ (a -ℤ b) +ℤ c
need_is f t m k e small l h l' h' a b c p q r =
    let ft = to_z-of_z w64 k (wide_fits k (omega (arith, ints)) (omega (arith, ints))) in
    let tt' = to_z-of_z w64 t (wide_fits t (omega (arith, ints)) (omega (arith, ints))) in
    let mt = to_z-of_z w64 m (wide_fits m (omega (arith, ints)) (omega (arith, ints))) in
    let dt = to_z-of_z w64 (k -ℤ t) (wide_fits (k -ℤ t) (omega (arith, ints)) (omega (arith, ints))) in
    let nt = to_z-of_z w64 ((k -ℤ t) +ℤ m) (wide_fits ((k -ℤ t) +ℤ m) (omega (arith, ints)) (omega (arith, ints))) in
    simp (e, ft, tt', dt, mt, nt) (cc (p, q, r))

pub start_proper : (w : ℕ) (ws : List ℕ) → length ws ≡ 32 → ((j : ℕ) → get_or ws j 0 ≡ cond (ltb j w) 3 0) → Proper w ws
start_proper w ws l h = record { fit = record { long = l; small = λ j. three (ltb j w) (get_or ws j 0) (h j) }; clear = λ j g. h j ∙ start_clear w j g }
  where
    three : (b : Bool) (x : ℕ) → x ≡ cond b 3 0 → x < 2 ^ 32
    three true x e = omega arith
    three false x e = omega arith
