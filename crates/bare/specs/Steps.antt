use Rattle.std.specs.Option.{is_some}
use Rattle.std.specs.Prelude.{◌≡◌, ℕ, ◌+◌, ◌-◌, ◌^◌, ◌<◌, ◌≤◌, Bool, true, false, cond, List, length, take, replicate, Some, None, Ok, Err, Option, Result, nat_le, nat_lt, slice_index, slice_set, refl}
use Rattle.std.proofs.Common.{sym, ◌∙◌, inl, inr, arith}
use Rattle.std.proofs.Math.Path.{ap}
use Rattle.std.proofs.Math.Seq.{take-set-lt}
use Rattle.std.proofs.lemmas.List.{ext_get_or, get_or_append_left, get_or-append-add, get_or_past, get_or-replicate, get_or-set_same, get_or-set_other, get_or-take, length-append, length-replicate, length-set, length-take}
use Rattle.std.proofs.lemmas.Bool.{both_ways, cases_eq, cases_lt, leb-true, lt-ltb}
use Rattle.trees.specs.declared.Status.{Status}
use Rattle.trees.specs.declared.Status.TheVariants.{Failed, Solved, Choice}
use Rattle.words.specs.Words.{Proper}
use Rattle.nodes.specs.Choosing.{status}
use Rattle.nodes.proofs.Chosen.{choice_is}
use Rattle.propagation.specs.Networks.{Network, Supported}
use Rattle.propagation.specs.Closing.{closure}
use Rattle.problems.specs.Problems.{narrowed, proper, step, tree_of}
use Rattle.problems.proofs.Laws.{proper_is, is_proper}
use Rattle.space.specs.declared.refusal.Refusal.{Refusal}
use Rattle.space.specs.declared.refusal.Refusal.TheVariants.{Alternative, Word}
use Rattle.space.specs.Meaning.{Meaning, moved}
use Rattle.space.specs.Laws.{Lawful, NamedByWords}
use Rattle.space.specs.Calls.{Loaded}
use Rattle.bare.specs.Bares.{Agrees, Remembers, bare_meaning, choice_answer, padded}

-- ---- what a choice tells

pub choice_taken : (s : Status) (a : ℕ) (c : ℕ × ℕ) → Ok c ≡ choice_answer s a → (s ≡ Choice c) × (a ≤ 1)
choice_taken Failed a c h = let z : ◌≡◌ {A = ℕ} 0 1 = cc in absurd (omega arith)
choice_taken Solved a c h = let z : ◌≡◌ {A = ℕ} 0 1 = cc in absurd (omega arith)
choice_taken (Choice d) a c h = tested (nat_le a 1) h refl
  where
    tested : (b : Bool) → Ok c ≡ cond b (Ok d) (Err Alternative) → nat_le a 1 ≡ b → (Choice d ≡ Choice c) × (a ≤ 1)
    tested true e q = (let f : d ≡ c = cc in ap Choice f, leb-true a 1 q)
    tested false e q = let z : ◌≡◌ {A = ℕ} 0 1 = cc in absurd (omega arith)

-- ---- nodes and their words

pub word_set : (w i : ℕ) → i < w → ◌≡◌ {A = Result (Unit {0}) Refusal} (Ok tt) (cond (nat_lt i w) (Ok tt) (Err Word))
word_set w i h = let t = lt-ltb i w h in rw t refl

module _ (w : ℕ) (high : w ≤ 32) where
  -- the words in use name a node
  pub padded_words : (n : List ℕ) → Proper w n → padded (take w n) ≡ n
  padded_words n pr =
      let t : length (take w n) ≡ w = (length-take w n ∙ omega (arith, pr.fit.long)) in
      let l : length (padded (take w n)) ≡ length n = omega (arith, length-append (take w n) (replicate (32 - length (take w n)) 0), length-replicate {A = ℕ} (32 - length (take w n)) 0, pr.fit.long, t) in
      ext_get_or 0 (padded (take w n)) n l (λ i _. elim (cases_lt i w) [
        | inl h ↦ get_or_append_left (take w n) (replicate (32 - length (take w n)) 0) 0 i (omega arith) ∙ get_or-take w n i 0 h
        | inr g ↦ (let e : i ≡ length (take w n) + (i - length (take w n)) = omega arith in
            ap (λ (j : ℕ). slice_index (padded (take w n)) j) e
            ∙ get_or-append-add (take w n) (replicate (32 - length (take w n)) 0) (i - length (take w n)) 0
            ∙ zero_word (32 - length (take w n)) (i - length (take w n)) ∙ sym (pr.clear i g))
      ])
    where
      zero_word : (k i : ℕ) → ◌≡◌ {A = ℕ} (slice_index (replicate k 0) i) 0
      zero_word k i = elim (cases_lt i k) [ inl h ↦ get_or-replicate k i 0 0 h | inr g ↦ get_or_past (replicate k 0) i 0 (omega (arith, length-replicate {A = ℕ} k 0)) ]

  set_proper : (n : List ℕ) (i x : ℕ) → Proper w n → i < w → x < 2 ^ 32 → Proper w (slice_set n i x)
  set_proper n i x pr h small = record {
    fit = record {
      long = length-set n i x ∙ pr.fit.long;
      small = λ j. elim (cases_eq j i) [
        | inl e ↦ omega (arith, ap (λ (k : ℕ). slice_index (slice_set n i x) k) e, get_or-set_same n i x 0 (omega (arith, pr.fit.long)))
        | inr ne ↦ omega (arith, get_or-set_other n i j x 0 ne, pr.fit.small j)
      ];
    };
    clear = λ j g. (get_or-set_other n i j x 0 (λ e. omega arith) ∙ pr.clear j g);
  }

-- a remembered status tells that the node is closed
pub is_closed : (p : Network) (n : List ℕ) (known : Option Status) (b : Bool) → b ≡ is_some known → Remembers known p n → b ≡ true → Supported p n
is_closed p n None b e r h = absurd (both_ways b e h)
is_closed p n (Some s) b e r h = r.1

module _ {C : Type 0} (p : Network) (start : List ℕ) (bound cost : List ℕ → C) where
  abbrev at : List ℕ → ℕ → Meaning (List ℕ) C
  at n allowance = bare_meaning p start bound cost n allowance

  pub lawful : {less : C → C → Bool} (root n : List ℕ) (allowance : ℕ) (known : Option Status) → Agrees p (at n allowance) less root known → Lawful (at n allowance) less
  lawful root n allowance known s = record {
    orderly = s.orderly;
    priced = s.priced;
    current = s.here;
    nodes = tt;
    low = s.low;
    high = s.high;
    capacity = omega arith;
    held = omega arith;
    allowance = s.most;
    layer = omega arith;
  }

  pub named : {less : C → C → Bool} (root n : List ℕ) (allowance : ℕ) (known : Option Status) → Agrees p (at n allowance) less root known → NamedByWords (tree_of p start bound) padded
  named root n allowance known s m h = padded_words p.width s.high m (proper_is p.width m h)

  -- word i set
  pub loaded : {less : C → C → Bool} (root n : List ℕ) (allowance i x : ℕ) (known : Option Status) → Agrees p (at n allowance) less root known → i < p.width → x < 2 ^ 32
      → Loaded (at n allowance) i x (at (slice_set n i x) allowance) × Agrees p (at (slice_set n i x) allowance) less root None
  loaded root n allowance i x known s h small =
      let pr = proper_is p.width n s.here in
      let ps = set_proper p.width s.high n i x pr h small in
      let t = take-set-lt p.width n i x h in (
        record {
          place = refl;
          words = t;
          only = λ m k e. sym (padded_words p.width s.high m (proper_is p.width m k)) ∙ ap padded (e ∙ sym t) ∙ padded_words p.width s.high (slice_set n i x) ps;
        },
        record {
          orderly = s.orderly;
          priced = s.priced;
          low = s.low;
          high = s.high;
          kept = s.kept;
          here = is_proper p.width (slice_set n i x) ps;
          remembered = tt;
          most = s.most;
          closed = s.closed;
        },
      )

  -- the child at the choice, with no more commits left than before
  pub stepped : {less : C → C → Bool} (root n m : List ℕ) (allowance less_allowance a : ℕ) (known : Option Status) (k : Status) (c : ℕ × ℕ) → Agrees p (at n allowance) less root known
      → Ok c ≡ choice_answer (status p.width n) a → m ≡ closure p (narrowed n c.0 c.1 a) → Supported p m → k ≡ status p.width m → less_allowance ≤ allowance
      → (m ≡ step p n a) × (at m less_allowance ≡ moved (at n less_allowance) a) × Agrees p (at m less_allowance) less root (Some k)
  unfolding step
  stepped root n m allowance less_allowance a known k c s h q sup r f =
      let o = choice_taken (status p.width n) a c h in
      let g : m ≡ step p n a = q ∙ ap (λ (d : ℕ × ℕ). closure p (narrowed n d.0 d.1 a)) (choice_is p.width n c o.0) in (
        g,
        ap (λ (l : List ℕ). at l less_allowance) g,
        record {
          orderly = s.orderly;
          priced = s.priced;
          low = s.low;
          high = s.high;
          kept = s.kept;
          here = ap (proper p.width) g ∙ s.orderly.step_proper n a s.here (c, o.0) o.1;
          remembered = (r, sup);
          most = omega (arith, s.most, f);
          closed = s.closed;
        },
      )
