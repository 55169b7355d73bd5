use Rattle.std.proofs.Common.{◌≡◌, ℕ, zero, suc, ◌+◌, ◌^◌, ◌<◌, ◌≤◌, Bool, true, false, cond, ◌&&◌, eqb, List, [], ◌∷◌, length, get_or, sym, refl, ap, ◌∙◌, subst, inl, inr, add-zero, pow-suc, arith}
use Rattle.std.proofs.lemmas.List.{ext_get_or, get_or_past, get_or-replicate, length-replicate}
use Rattle.std.proofs.lemmas.Nat.{pow_below, pow_pos, or_lt}
use Rattle.std.proofs.lemmas.Bool.{cases_eq, cases_lt, both_ways, and_from, and_parts, or_cases, or_left, or_right, eqb-true, eqb-false, cond-true, cond-false}
use Rattle.words.specs.Words.{bit, has, Inside, Fit}
use Rattle.nodes.specs.Choosing.{Filled, Empty, empty_below}
use Rattle.words.proofs.Bit.{bit_of_or, bit_zero, bit_pow_same, bit_pow_other}
use Rattle.words.proofs.Inside.{same_node, inside_le, has_place}
use Rattle.nodes.proofs.Emptiness.{empty?, empty_from, filled_none}
use Rattle.propagation.specs.Networks.{Network, Supported, Largest, ClosureOf, Sane, dead}
use Rattle.propagation.specs.Closing.{those, words, supported, sweep, sweeps, total, closure}

-- ---- the total of the words falls

pub total_le : (a b : List ℕ) → length a ≡ length b → ((i : ℕ) → get_or a i 0 ≤ get_or b i 0) → total a ≤ total b
total_le [] [] l h = omega arith
total_le [] (y ∷ b) l h = omega arith
total_le (x ∷ a) [] l h = absurd (omega arith)
total_le (x ∷ a) (y ∷ b) l h = omega (arith, h 0, total_le a b (omega arith) (λ i. h (suc i)))

pub total_less : (a b : List ℕ) → length a ≡ length b → ((i : ℕ) → get_or a i 0 ≤ get_or b i 0) → (i : ℕ) → (get_or a i 0 ≡ get_or b i 0 → ⊥) → total a < total b
total_less [] [] l h i ne = absurd (ne refl)
total_less [] (y ∷ b) l h i ne = absurd (omega arith)
total_less (x ∷ a) [] l h i ne = absurd (omega arith)
total_less (x ∷ a) (y ∷ b) l h zero ne = omega (arith, h 0, ne, total_le a b (omega arith) (λ i. h (suc i)))
total_less (x ∷ a) (y ∷ b) l h (suc i) ne = omega (arith, h 0, total_less a b (omega arith) (λ i. h (suc i)) i ne)

pub total_same : (a b : List ℕ) → length a ≡ length b → Inside a b → total a ≡ total b → a ≡ b
total_same a b l f e = ext_get_or 0 a b l (λ i _. elim (cases_eq (get_or a i 0) (get_or b i 0)) [ inl s ↦ s | inr ne ↦ absurd (omega (arith, total_less a b l (inside_le a b f) i ne)) ])

-- ---- a word made of a test

pub those_only : (q : ℕ → Bool) (k v : ℕ) → bit (those q k) v ≡ true → (v < k) × (q v ≡ true)
those_only q zero v h = absurd (both_ways (bit 0 v) (bit_zero v) h)
those_only q (suc k) v h =
    elim (or_cases (bit (cond (q k) (2 ^ k) 0) v) (bit (those q k) v) (sym (bit_of_or (cond (q k) (2 ^ k) 0) (those q k) v) ∙ h)) [
      | inl t ↦ top (q k) refl t
      | inr t ↦ let r = those_only q k v t in (omega (arith, r.0), r.1)
    ]
  where
    top : (b : Bool) → q k ≡ b → bit (cond b (2 ^ k) 0) v ≡ true → (v < suc k) × (q v ≡ true)
    top true e t = elim (cases_eq v k) [
      | inl s ↦ (omega arith, ap q s ∙ e)
      | inr ne ↦ absurd (both_ways (bit (2 ^ k) v) (bit_pow_other k v ne) t)
    ]
    top false e t = absurd (both_ways (bit 0 v) (bit_zero v) t)

pub those_has : (q : ℕ → Bool) (k v : ℕ) → v < k → q v ≡ true → bit (those q k) v ≡ true
those_has q zero v h t = absurd (omega arith)
those_has q (suc k) v h t = bit_of_or (cond (q k) (2 ^ k) 0) (those q k) v ∙ elim (cases_eq v k) [
  | inl e ↦ or_left (bit (cond (q k) (2 ^ k) 0) v) (bit (those q k) v) (ap (λ (b : Bool). bit (cond b (2 ^ k) 0) v) (ap q (sym e) ∙ t) ∙ ap (bit (2 ^ k)) e ∙ bit_pow_same k)
  | inr ne ↦ or_right (bit (cond (q k) (2 ^ k) 0) v) (bit (those q k) v) (those_has q k v (omega arith) t)
]

those_lt : (q : ℕ → Bool) (k : ℕ) → those q k < 2 ^ k
those_lt q zero = omega arith
those_lt q (suc k) = or_lt (suc k) (cond (q k) (2 ^ k) 0) (those q k) (part (q k)) (omega (arith, those_lt q k, pow-suc 2 k))
  where
    part : (b : Bool) → cond b (2 ^ k) 0 < 2 ^ suc k
    part true = pow_below k (suc k) (omega arith)
    part false = pow_pos (suc k)

pub length_words : (f : ℕ → ℕ) (k i : ℕ) → length (words f k i) ≡ k
length_words f zero i = refl
length_words f (suc k) i = ap suc (length_words f k (suc i))

pub get_or_words : (f : ℕ → ℕ) (k i j : ℕ) → j < k → get_or (words f k i) j 0 ≡ f (i + j)
get_or_words f zero i j h = absurd (omega arith)
get_or_words f (suc k) i zero h = ap f (sym (add-zero i))
get_or_words f (suc k) i (suc j) h = get_or_words f k (suc i) j (omega arith) ∙ ap f (omega arith)

-- ---- every constraint, as a test

all_parts : (p : Network) (n : List ℕ) (k i v : ℕ) → supported p n k i v ≡ true → (j : ℕ) → j < k → p.supports j n i v ≡ true
all_parts p n zero i v h j l = absurd (omega arith)
all_parts p n (suc k) i v h j l =
    let q = and_parts (p.supports k n i v) (supported p n k i v) h in
    elim (cases_eq j k) [ inl e ↦ ap (λ (x : ℕ). p.supports x n i v) e ∙ q.0 | inr ne ↦ all_parts p n k i v q.1 j (omega arith) ]

all_from : (p : Network) (n : List ℕ) (k i v : ℕ) → ((j : ℕ) → j < k → p.supports j n i v ≡ true) → supported p n k i v ≡ true
all_from p n zero i v h = refl
all_from p n (suc k) i v h = and_from (p.supports k n i v) (supported p n k i v) (h k (omega arith)) (all_from p n k i v (λ j l. h j (omega arith)))

-- ---- one sweep

module _ (p : Network) (n : List ℕ) where
  word : ℕ → ℕ
  word i = those (λ v. has n i v && supported p n p.count i v) 32

  sweep_word : (i : ℕ) → i < 32 → get_or (sweep p n) i 0 ≡ word i
  unfolding word sweep
  sweep_word i h = get_or_words (λ i. those (λ v. has n i v && supported p n p.count i v) 32) 32 0 i h ∙ ap (λ (x : ℕ). those (λ v. has n x v && supported p n p.count x v) 32) (omega arith)

  pub sweep_fit : Fit (sweep p n)
  unfolding word sweep
  sweep_fit = record { long = length_words (λ i. those (λ v. has n i v && supported p n p.count i v) 32) 32 0; small = λ i. small i }
    where
      small : (i : ℕ) → get_or (sweep p n) i 0 < 2 ^ 32
      small i = elim (cases_lt i 32) [
        | inl l ↦ omega (arith, sweep_word i l, those_lt (λ v. has n i v && supported p n p.count i v) 32)
        | inr g ↦ omega (arith, get_or_past (sweep p n) i 0 (omega (arith, length_words (λ i. those (λ v. has n i v && supported p n p.count i v) 32) 32 0)), pow_pos 32)
      ]

  pub sweep_only : (i v : ℕ) → has (sweep p n) i v ≡ true → (has n i v ≡ true) × ((k : ℕ) → k < p.count → p.supports k n i v ≡ true)
  unfolding word sweep
  sweep_only i v h =
      let place = has_place (sweep p n) sweep_fit i v h in
      let t = those_only (λ v. has n i v && supported p n p.count i v) 32 v (ap (λ (x : ℕ). bit x v) (sym (sweep_word i place.0)) ∙ h) in
      let q = and_parts (has n i v) (supported p n p.count i v) t.1 in
      (q.0, all_parts p n p.count i v q.1)

  pub sweep_has : (i v : ℕ) → i < 32 → v < 32 → has n i v ≡ true → ((k : ℕ) → k < p.count → p.supports k n i v ≡ true) → has (sweep p n) i v ≡ true
  unfolding word sweep
  sweep_has i v l m h s =
      ap (λ (x : ℕ). bit x v) (sweep_word i l)
      ∙ those_has (λ v. has n i v && supported p n p.count i v) 32 v m (and_from (has n i v) (supported p n p.count i v) h (all_from p n p.count i v s))

-- ---- sweeps reach the largest supported node

pub sweeps_largest : (p : Network) → Sane p → (f : ℕ) (n : List ℕ) → Fit n → total n < f → Largest p n (sweeps p f n) × Fit (sweeps p f n)
unfolding sweeps
sweeps_largest p s zero n fit l = absurd (omega arith)
sweeps_largest p s (suc f) n fit l = go (eqb (total (sweep p n)) (total n)) refl (sweeps_largest p s f (sweep p n) (sweep_fit p n))
  where
    below : Inside (sweep p n) n
    below i v h = (sweep_only p n i v h).0

    even : length (sweep p n) ≡ length n
    even = (sweep_fit p n).long ∙ sym fit.long

    keeps : (o : List ℕ) → Inside o n → Supported p o → Inside o (sweep p n)
    keeps o g q i v h =
        let place = has_place n fit i v (g i v h) in
        sweep_has p n i v place.0 place.1 (g i v h) (λ k lt. s.grows k i v o n g (q k lt i v h))

    go : (b : Bool) → eqb (total (sweep p n)) (total n) ≡ b → (total (sweep p n) < f → Largest p (sweep p n) (sweeps p f (sweep p n)) × Fit (sweeps p f (sweep p n)))
        → Largest p n (cond b n (sweeps p f (sweep p n))) × Fit (cond b n (sweeps p f (sweep p n)))
    go true e ih =
        let same : sweep p n ≡ n = total_same (sweep p n) n even below (eqb-true (total (sweep p n)) (total n) e) in (
          record {
            inside = λ i v h. h;
            supported = λ k lt i v h. (sweep_only p n i v (ap (λ (x : List ℕ). has x i v) same ∙ h)).1 k lt;
            largest = λ o g q. g;
          },
          fit,
        )
    go false e ih =
        let less : total (sweep p n) < total n = omega (arith, total_le (sweep p n) n even (inside_le (sweep p n) n below), eqb-false (total (sweep p n)) (total n) e) in
        let r = ih (omega arith) in (
          record {
            inside = λ i v h. below i v (r.0.inside i v h);
            supported = r.0.supported;
            largest = λ o g q. r.0.largest o (keeps o g q) q;
          },
          r.1,
        )

-- ---- the computed closure is the closure

pub closure_is : (p : Network) → Sane p → (n : List ℕ) → Fit n → ClosureOf p n (closure p n)
unfolding closure
closure_is p s n fit =
    let r = sweeps_largest p s (suc (total n)) n fit (omega arith) in
    record {
      node = sweeps p (suc (total n)) n;
      long = r.1.long;
      largest = r.0;
      alive = λ ne. cond-false (empty_below p.width m) dead m (filled_none p.width m ne);
      fails = λ e. cond-true (empty_below p.width m) dead m (empty_from p.width m e.0 e.1 e.2);
    }
  where
    m : List ℕ
    m = sweeps p (suc (total n)) n

-- the largest supported node inside a node is one node
pub largest_unique : (p : Network) (n a b : List ℕ) → length a ≡ length b → Largest p n a → Largest p n b → a ≡ b
largest_unique p n a b l x y = same_node a b l (y.largest a x.inside x.supported) (x.largest b y.inside y.supported)

-- and so is the closure
pub closure_unique : (p : Network) (n a b : List ℕ) → ClosureOf p n a → ClosureOf p n b → a ≡ b
closure_unique p n a b x y =
    let e : x.node ≡ y.node = largest_unique p n x.node y.node (x.long ∙ sym y.long) x.largest y.largest in
    elim (empty? p.width x.node) [
      | inl h ↦ x.fails h ∙ sym (y.fails (let P : List ℕ → Type 0 = (λ m. Empty p.width m) in subst P e h))
      | inr ne ↦ x.alive ne ∙ e ∙ sym (y.alive (let P : List ℕ → Type 0 = (λ m. Filled p.width m) in subst P e ne))
    ]

-- ---- every constraint supports every value of a closure: the dead node has no value

pub dead_word : (i : ℕ) → get_or dead i 0 ≡ 0
dead_word i = elim (cases_lt i 32) [ inl l ↦ get_or-replicate 32 i 0 0 l | inr g ↦ get_or_past dead i 0 (omega (arith, length-replicate {A = ℕ} 32 0)) ]

pub closure_supported : (p : Network) (n c : List ℕ) → ClosureOf p n c → Supported p c
closure_supported p n c x =
    let P : List ℕ → Type 0 = (λ m. Supported p m) in
    elim (empty? p.width x.node) [
      | inl e ↦ subst P (sym (x.fails e)) (λ k l i v h. absurd (both_ways (has dead i v) (ap (λ (w : ℕ). bit w v) (dead_word i) ∙ bit_zero v) h))
      | inr f ↦ subst P (sym (x.alive f)) x.largest.supported
    ]

-- ---- what a loop has to show at its two ends

pub ends_alive : (p : Network) → Sane p → (n m : List ℕ) → Fit n → length m ≡ 32 → Largest p n m → Filled p.width m → m ≡ closure p n
ends_alive p s n m fit l big ne =
    closure_unique p n m (closure p n) (record { node = m; long = l; largest = big; alive = λ _. refl; fails = λ e. absurd (ne e.0 e.1 e.2) }) (closure_is p s n fit)

pub ends_dead : (p : Network) → Sane p → (n m : List ℕ) → Fit n → ((o : List ℕ) → Inside o n → Supported p o → Inside o m) → Empty p.width m → dead ≡ closure p n
ends_dead p s n m fit keeps e =
    let c = closure_is p s n fit in
    let big : Inside c.node m = keeps c.node c.largest.inside c.largest.supported in
    let z : get_or c.node e.0 0 ≡ 0 = omega (arith, inside_le c.node m big e.0, e.2) in
    sym (c.fails (e.0, e.1, z))

-- what is the computed closure keeps its law
pub closure_law : (p : Network) → Sane p → (n m : List ℕ) → Fit n → m ≡ closure p n → ClosureOf p n m
closure_law p s n m fit e = let P : List ℕ → Type 0 = (λ x. ClosureOf p n x) in subst P (sym e) (closure_is p s n fit)
