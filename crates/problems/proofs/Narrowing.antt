use Rattle.std.proofs.Common.{◌≡◌, ℕ, ◌^◌, ◌<◌, ◌≤◌, Bool, true, false, ◌&&◌, List, length, get_or, set, sym, refl, ap, ◌∙◌, subst, inl, inr, arith}
use lib.Bits.{bit_and}
use Rattle.std.proofs.lemmas.List.{get_or-set_same, get_or-set_other, length-set, get_or_past, set_past}
use Rattle.std.proofs.lemmas.Bool.{cases_eq, cases_lt, cases_Bool, both_ways, and_from, and_parts}
use Rattle.words.specs.Words.{bit, has, Inside, Fit, Proper, Only, Without}
use Rattle.words.proofs.Bit.{bit_of_and, bit_ext, bit_past, bit_zero, bit_pow_same, bit_pow_other, is_without}
use Rattle.words.proofs.Inside.{inside_le}
use Rattle.nodes.specs.Choosing.{Filled}
use Rattle.propagation.specs.Networks.{Network, Sane, Settled, Supported}
use Rattle.propagation.specs.Closing.{total}
use Rattle.propagation.proofs.Closures.{total_less}
use Rattle.problems.specs.Problems.{cut}

-- an assignment as a node: one value in each of the first w words, and none beyond
pub record Lone (w : ℕ) (o : List ℕ) : Type 0 where
  pub proper : Proper w o
  pub value : ℕ → ℕ
  pub there : (i : ℕ) → i < w → has o i (value i) ≡ true
  pub alone : (i u : ℕ) → i < w → has o i u ≡ true → u ≡ value i

-- v and another value are in word x
pub record Open (w : ℕ) (n : List ℕ) (x v : ℕ) : Type 0 where
  pub below : x < w
  pub there : has n x v ≡ true
  pub more : ℕ
  pub also : has n x more ≡ true
  pub other : more ≡ v → ⊥

-- one of the two parts of a node
abbrev pub part : List ℕ → ℕ → ℕ → Bool → List ℕ
part n x v keep = set n x (cut (get_or n x 0) v keep)

one_bit : (v : ℕ) → Only v (2 ^ v)
one_bit v = record { is = refl; there = bit_pow_same v; alone = λ u b. by_eq u b }
  where
    by_eq : (u : ℕ) → bit (2 ^ v) u ≡ true → u ≡ v
    by_eq u b = elim (cases_eq u v) [ inl e ↦ e | inr ne ↦ absurd (both_ways (bit (2 ^ v) u) (bit_pow_other v u ne) b) ]

pub kept : (w v u : ℕ) → bit (cut w v true) u ≡ true → (bit w u ≡ true) × (u ≡ v)
kept w v u h = let q = and_parts (bit w u) (bit (2 ^ v) u) (sym (bit_of_and w (2 ^ v) u) ∙ h) in (q.0, (one_bit v).alone u q.1)

pub keeps_it : (w v u : ℕ) → bit w u ≡ true → u ≡ v → bit (cut w v true) u ≡ true
keeps_it w v u h e = bit_of_and w (2 ^ v) u ∙ and_from (bit w u) (bit (2 ^ v) u) h (ap (bit (2 ^ v)) e ∙ bit_pow_same v)

pub dropped : (w v : ℕ) → Without w v (cut w v false)
dropped w v = is_without w v (2 ^ v) (one_bit v)

pub cut_inside : (w v u : ℕ) (keep : Bool) → bit (cut w v keep) u ≡ true → bit w u ≡ true
cut_inside w v u true h = (kept w v u h).0
cut_inside w v u false h = ((dropped w v).only u h).0

module _ (n : List ℕ) (x v : ℕ) (fit : Fit n) where
  pub part_long : (b : Bool) → length (part n x v b) ≡ length n
  part_long b = length-set n x (cut (get_or n x 0) v b)

  -- a cut at a word that is not there changes nothing
  pub part_inside : (b : Bool) → Inside (part n x v b) n
  part_inside b i u h = elim (cases_eq i x) [
    | inl e ↦ elim (cases_lt x (length n)) [
      | inl l ↦ (let Q : ℕ → Type 0 = (λ j. has n j u ≡ true) in
          subst Q (sym e) (cut_inside (get_or n x 0) v u b (ap (λ (w : ℕ). bit w u) (sym (get_or-set_same n x (cut (get_or n x 0) v b) 0 l)) ∙ ap (λ (j : ℕ). has (part n x v b) j u) (sym e) ∙ h)))
      | inr g ↦ absurd (both_ways (has (part n x v b) i u) (ap (λ (w : ℕ). bit w u) (get_or_past (part n x v b) i 0 (omega (arith, part_long b))) ∙ bit_zero u) h)
    ]
    | inr ne ↦ ap (λ (w : ℕ). bit w u) (sym (get_or-set_other n x i (cut (get_or n x 0) v b) 0 ne)) ∙ h
  ]

  pub part_fit : (b : Bool) → Fit (part n x v b)
  part_fit b = record { long = part_long b ∙ fit.long; small = λ i. omega (arith, inside_le (part n x v b) n (part_inside b) i, fit.small i) }

  pub part_proper : (w : ℕ) → Proper w n → (b : Bool) → Proper w (part n x v b)
  part_proper w p b = record { fit = part_fit b; clear = λ i h. omega (arith, inside_le (part n x v b) n (part_inside b) i, p.clear i h) }

module _ (w : ℕ) (n : List ℕ) (x v : ℕ) (fit : Fit n) (wide : w ≤ 32) (o : Open w n x v) where
  pub at_x : (b : Bool) → get_or (part n x v b) x 0 ≡ cut (get_or n x 0) v b
  at_x b = get_or-set_same n x (cut (get_or n x 0) v b) 0 (omega (arith, fit.long, o.below))

  has_keep : (u : ℕ) → has (part n x v true) x u ≡ true → u ≡ v
  has_keep u h = (kept (get_or n x 0) v u (ap (λ (k : ℕ). bit k u) (sym (at_x true)) ∙ h)).1

  has_drop : (u : ℕ) → has (part n x v false) x u ≡ true → u ≡ v → ⊥
  has_drop u h = ((dropped (get_or n x 0) v).only u (ap (λ (k : ℕ). bit k u) (sym (at_x false)) ∙ h)).1

  pub part_differs : (b : Bool) → get_or (part n x v b) x 0 ≡ get_or n x 0 → ⊥
  part_differs false e = has_drop v (ap (λ (k : ℕ). bit k v) e ∙ o.there) refl
  part_differs true e = o.other (has_keep o.more (ap (λ (k : ℕ). bit k o.more) e ∙ o.also))

  pub part_less : (b : Bool) → total (part n x v b) < total n
  part_less b = total_less (part n x v b) n (part_long n x v fit b) (inside_le (part n x v b) n (part_inside n x v fit b)) x (part_differs b)

  -- an assignment inside n is inside one part, and inside no other
  pub side : (a : List ℕ) (one : Lone w a) → Inside a n → (b : Bool) × Inside a (part n x v b)
  side a one h = elim (cases_eq (one.value x) v) [
    | inl e ↦ (true, λ i u t. into true (λ u t. keeps_it (get_or n x 0) v u (h x u t) (one.alone x u o.below t ∙ e)) i u t)
    | inr ne ↦ (false, λ i u t. into false (λ u t. (dropped (get_or n x 0) v).stays u (h x u t) (λ e. ne (sym (one.alone x u o.below t) ∙ e))) i u t)
  ]
    where
      into : (b : Bool) → ((u : ℕ) → has a x u ≡ true → bit (cut (get_or n x 0) v b) u ≡ true) → Inside a (part n x v b)
      into b f i u t = elim (cases_eq i x) [
        | inl e ↦ ap (λ (j : ℕ). has (part n x v b) j u) e ∙ ap (λ (k : ℕ). bit k u) (at_x b) ∙ f u (ap (λ (j : ℕ). has a j u) (sym e) ∙ t)
        | inr ne ↦ ap (λ (k : ℕ). bit k u) (get_or-set_other n x i (cut (get_or n x 0) v b) 0 ne) ∙ h i u t
      ]

  pub apart : (a : List ℕ) → Lone w a → Inside a (part n x v true) → Inside a (part n x v false) → ⊥
  apart a one f t = let h = one.there x o.below in has_drop (one.value x) (t x (one.value x) h) (has_keep (one.value x) (f x (one.value x) h))

-- ---- a supported node with one word cut is settled but for the constraints about that variable

module _ (p : Network) (s : Sane p) (n : List ℕ) (x v mask : ℕ) (fit : Fit n) (b : Bool) where
  pub part_settled : Supported p n → (x < 32 → Only x mask) → Settled p (part n x v b) mask
  part_settled sup one full k lt apart i u h = s.«local» k i u n (part n x v b) was full same (sup k lt i u (part_inside n x v fit b i u h))
    where
      was : Filled p.width n
      was j l e = full j l (omega (arith, inside_le (part n x v b) n (part_inside n x v fit b) j, e))

      same : (j : ℕ) → bit (p.touches k) j ≡ true → get_or n j 0 ≡ get_or (part n x v b) j 0
      same j t = elim (cases_eq j x) [
        | inl e ↦ elim (cases_lt x 32) [
          | inl l ↦ absurd (both_ways (bit mask j) (apart j t) (ap (bit mask) e ∙ (one l).there))
          | inr g ↦ ap (λ (m : List ℕ). get_or m j 0) (sym (set_past n x (cut (get_or n x 0) v b) (omega (arith, fit.long))))
        ]
        | inr ne ↦ sym (get_or-set_other n x j (cut (get_or n x 0) v b) 0 ne)
      ]

-- ---- the mask of a value, none for one past the width

pub cut_mask : (k w v m : ℕ) → w < 2 ^ k → (v < k → m ≡ 2 ^ v) → (k ≤ v → m ≡ 0) → bit_and w m ≡ bit_and w (2 ^ v)
cut_mask k w v m h one none = elim (cases_lt v k) [
  | inl l ↦ ap (bit_and w) (one l)
  | inr g ↦ bit_ext (bit_and w m) (bit_and w (2 ^ v)) (λ u. ap (λ (x : ℕ). bit (bit_and w x) u) (none g) ∙ no_bit u ∙ sym (past u g))
]
  where
    no_bit : (u : ℕ) → bit (bit_and w 0) u ≡ false
    no_bit u = bit_of_and w 0 u ∙ both (bit w u) (bit 0 u) (bit_zero u)
      where
        both : (x y : Bool) → y ≡ false → (x && y) ≡ false
        both true y e = e
        both false y e = refl

    past : (u : ℕ) → k ≤ v → bit (bit_and w (2 ^ v)) u ≡ false
    past u g = elim (cases_Bool (bit (bit_and w (2 ^ v)) u)) [
      | inl t ↦ (let q = kept w v u t in absurd (both_ways (bit w u) (ap (bit w) q.1 ∙ bit_past k w v h g) q.0))
      | inr f ↦ f
    ]
