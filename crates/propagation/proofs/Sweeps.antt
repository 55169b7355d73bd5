use Rattle.std.proofs.Common.{◌≡◌, ℕ, ◌+◌, ◌<◌, ◌≤◌, min, true, false, List, length, get_or, sym, ap, ◌∙◌, inl, inr, arith}
use lib.Bits.{bit_and, bit_or, or_zero_r}
use Rattle.std.proofs.lemmas.Bool.{cases_eq, cases_Bool, both_ways, and_from, and_parts, or_parts}
use Rattle.std.specs.Prelude.{Some, None, IfSome, IsSomeAnd}
use Rattle.std.specs.declared.option.Option.{Option}
use Rattle.words.specs.Words.{bit, has, Inside}
use Rattle.nodes.specs.Choosing.{Filled}
use Rattle.propagation.specs.Networks.{Network, Holds, Supported, Largest, Sane, Revised, Differ, Apart, Settled}
use Rattle.propagation.specs.Closing.{total}
use Rattle.words.proofs.Bit.{bit_of_and, bit_of_or, bit_zero, some_bit}
use Rattle.words.proofs.Inside.{inside_le}
use Rattle.propagation.proofs.Closures.{total_le, total_less}

-- nothing calls for a revision of constraint k: not every one is to be revised, and it is about none of the variables
abbrev pub Quiet : Network → Option ℕ → ℕ → Type 0
Quiet p moved k = IsSomeAnd moved (λ v. Apart p k v)

-- a constraint that nothing calls for supports all
abbrev pub Calm : Network → List ℕ → Option ℕ → Type 0
Calm p n moved = (k : ℕ) → k < p.count → Quiet p moved k → Holds p k n

-- m is on the way from n to the closure, and calm if n was
pub record Reached (p : Network) (n m : List ℕ) (moved todo : Option ℕ) : Type 0 where
  pub long : length m ≡ 32
  pub inside : Inside m n
  pub filled : Filled p.width m
  pub keeps : (o : List ℕ) → Inside o n → Supported p o → Inside o m
  pub settled : Calm p n moved → Calm p m todo

-- within a sweep that began at b, before constraint j
pub record Sweep (p : Network) (b m : List ℕ) (todo : Option ℕ) (changed j : ℕ) : Type 0 where
  pub long : length m ≡ 32
  pub inside : Inside m b
  pub filled : Filled p.width m
  pub keeps : (o : List ℕ) → Inside o b → Supported p o → Inside o m
  pub settled : Calm p b todo → (k : ℕ) → k < p.count → Apart p k changed → (j ≤ k → Quiet p todo k) → Holds p k m
  pub falls : total m + min changed 1 ≤ total b

module _ (p : Network) (s : Sane p) (n : List ℕ) where
  pub begin : (moved : Option ℕ) → length n ≡ 32 → Filled p.width n → Reached p n n moved moved
  begin moved l f = record { long = l; inside = λ i v h. h; filled = f; keeps = λ o h _. h; settled = λ g. g }

  pub leave : (b m : List ℕ) (moved todo : Option ℕ) (changed j : ℕ) → p.count ≤ j → Reached p n b moved todo → Sweep p b m todo changed j → Reached p n m moved (Some changed)
  leave b m moved todo changed j e a q = record {
    long = q.long;
    inside = λ i v h. a.inside i v (q.inside i v h);
    filled = q.filled;
    keeps = λ o g u. q.keeps o (a.keeps o g u) u;
    settled = λ g k h t. q.settled (a.settled g) k h t (λ l. absurd (omega arith));
  }

  -- nothing calls for constraint j
  pub skip : (b m : List ℕ) (todo : Option ℕ) (changed j : ℕ) → IsSomeAnd todo (λ v. bit_and (p.touches j) (bit_or v changed) ≡ 0)
      → Sweep p b m todo changed j → Sweep p b m todo changed (j + 1)
  skip b m None changed j z q = absurd z
  skip b m (Some todo) changed j z q = record {
    long = q.long;
    inside = q.inside;
    filled = q.filled;
    keeps = q.keeps;
    settled = λ g k h a t. q.settled g k h a (λ l. elim (cases_eq k j) [ inl e ↦ (λ i u. clear i (ap (λ (x : ℕ). bit (p.touches x) i) (sym e) ∙ u)) | inr ne ↦ t (omega arith) ]);
    falls = q.falls;
  }
    where
      clear : (i : ℕ) → bit (p.touches j) i ≡ true → bit todo i ≡ false
      clear i u =
          elim (cases_Bool (bit (bit_or todo changed) i)) [
            | inl t ↦ absurd (both_ways (bit 0 i) (bit_zero i) (ap (λ (x : ℕ). bit x i) (sym z) ∙ bit_of_and (p.touches j) (bit_or todo changed) i ∙ and_from (bit (p.touches j) i) (bit (bit_or todo changed) i) u t))
            | inr f ↦ (or_parts (bit todo i) (bit changed i) (sym (bit_of_or todo changed i) ∙ f)).0
          ]

  -- constraint j is revised
  module _ (b m m' : List ℕ) (todo : Option ℕ) (changed j d : ℕ) (lt : j < p.count) (r : Revised p j m m') (f : Differ m m' d) (q : Sweep p b m todo changed j) where
    below : Inside m' m
    below i v h = (and_parts (has m i v) (p.supports j m i v) (sym (r i v) ∙ h)).0

    -- no supported node inside is lost
    pub saves : (o : List ℕ) → Inside o b → Supported p o → Inside o m'
    saves o g u i v h = r i v ∙ and_from (has m i v) (p.supports j m i v) (q.keeps o g u i v h) (s.grows j i v o m (q.keeps o g u) (u j lt i v h))

    same_words : d ≡ 0 → (i : ℕ) → get_or m' i 0 ≡ get_or m i 0
    same_words z i = f.same i (ap (λ (x : ℕ). bit x i) z ∙ bit_zero i)

    -- where nothing changed, nothing was emptied
    pub still : d ≡ 0 → Filled p.width m'
    still z i l e = q.filled i l (sym (same_words z i) ∙ e)

    pub revise : Filled p.width m' → Sweep p b m' todo (bit_or changed d) (j + 1)
    revise full = record {
      long = f.long ∙ q.long;
      inside = λ i v h. q.inside i v (below i v h);
      filled = full;
      keeps = saves;
      settled = λ g k h a t. holds g k h a t;
      falls = fall;
    }
      where
        was : (k : ℕ) → Apart p k (bit_or changed d) → (i : ℕ) → bit (p.touches k) i ≡ true → (bit changed i ≡ false) × (bit d i ≡ false)
        was k a i u = or_parts (bit changed i) (bit d i) (sym (bit_of_or changed d i) ∙ a i u)

        same : (k : ℕ) → Apart p k (bit_or changed d) → (i : ℕ) → bit (p.touches k) i ≡ true → get_or m i 0 ≡ get_or m' i 0
        same k a i u = sym (f.same i (was k a i u).1)

        holds : Calm p b todo → (k : ℕ) → k < p.count → Apart p k (bit_or changed d) → (j + 1 ≤ k → Quiet p todo k) → Holds p k m'
        holds g k h a t i v x = s.«local» k i v m m' q.filled full (same k a) (elim (cases_eq k j) [
          | inl e ↦ ap (λ (y : ℕ). p.supports y m i v) e ∙ (and_parts (has m i v) (p.supports j m i v) (sym (r i v) ∙ x)).1
          | inr ne ↦ q.settled g k h (λ i u. (was k a i u).0) (λ l. t (omega arith)) i v (below i v x)
        ])

        less : (d ≡ 0 → ⊥) → total m' < total m
        less ne = let w = some_bit d ne in total_less m' m f.long (inside_le m' m below) w.0 (f.other w.0 w.1)

        fall : total m' + min (bit_or changed d) 1 ≤ total b
        fall = elim (cases_eq d 0) [
          | inl e ↦ (let o : bit_or changed d ≡ changed = ap (bit_or changed) e ∙ or_zero_r changed in omega (arith, o, q.falls, total_le m' m f.long (inside_le m' m below)))
          | inr ne ↦ omega (arith, q.falls, less ne)
        ]

  pub ends : (m : List ℕ) (moved : Option ℕ) → IfSome moved (λ v. Settled p n v) → Filled p.width n → Reached p n m moved (Some 0) → Largest p n m
  ends m moved g full q = record {
    inside = q.inside;
    supported = λ k h. q.settled (calm moved g) k h (λ i _. bit_zero i);
    largest = q.keeps;
  }
    where
      calm : (moved : Option ℕ) → IfSome moved (λ v. Settled p n v) → Calm p n moved
      calm None g j l t = absurd t
      calm (Some v) g j l t = g full j l t
