use Rattle.std.proofs.Common.{◌≡◌, ℕ, zero, suc, ◌+◌, ◌-◌, ◌*◌, ◌^◌, ◌<◌, ◌≤◌, Bool, true, false, cond, ◌&&◌, eqb, ltb, leb, ◌≢◌, List, [], ◌∷◌, ◌++◌, length, get_or, set, reverse, Some, sym, subst, refl, ap, ◌∙◌, add-one, arith, get_or-set_other, get_or-set_same}
use lib.Bits.{bit_or, bit_xor, or_lt}
use lib.Pow.{pow-lt}
use lib.Count.{ones-le}
use Rattle.std.proofs.lemmas.Bool.{and_parts, and_from, eqb-true, eq-eqb, leb-true, le-leb, lt-ltb, le-ltb}
use Rattle.std.proofs.lemmas.List.{reverse-append, length-reverse}
use Rattle.words.specs.Words.{bit, Only}
use Rattle.words.proofs.Inside.{in_word}
use Rattle.trails.specs.declared.entry.Entry.{Entry}
use Rattle.trails.specs.declared.entry.Mark.{Mark}
use Rattle.trails.specs.Entries.{recorded, added, noted, marked, newest_entry, popped, none, back, parts, top, exact, kept}
use Rattle.trails.proofs.Exact.{room, exact_recorded, exact_more}

-- ---- the marks, the newest first

pub newest_more : (ms : List Mark) (m : Mark) → reverse (ms ++ (m ∷ [])) ≡ m ∷ reverse ms
newest_more ms m = reverse-append ms (m ∷ [])

pub length_parts : (es : List Entry) (ms : List Mark) → length (parts es ms) ≡ length ms
length_parts es [] = refl
length_parts es (m ∷ ms) = ap suc (length_parts es ms)

length_back : (es : List Entry) (i n : ℕ) → length (back es i n) ≡ n
length_back es i zero = refl
length_back es i (suc n) = ap suc (length_back es i n)

-- ---- what the table keeps to

pub record Fine (es : List Entry) (m : Mark) (ms : List Mark) : Type 0 where
  pub start : m.start ≡ top ms
  pub size : m.size ≤ 32
  pub words : exact m.words (back es m.start m.size) ≡ true
  pub rest : kept es ms ≡ true

fine : (es : List Entry) (m : Mark) (ms : List Mark) → kept es (m ∷ ms) ≡ true → Fine es m ms
fine es m ms h =
    let p = and_parts (eqb m.start (top ms)) (leb m.size 32 && (exact m.words (back es m.start m.size) && kept es ms)) h in
    let q = and_parts (leb m.size 32) (exact m.words (back es m.start m.size) && kept es ms) p.1 in
    let r = and_parts (exact m.words (back es m.start m.size)) (kept es ms) q.1 in
    record { start = eqb-true m.start (top ms) p.0; size = leb-true m.size 32 q.0; words = r.0; rest = r.1 }

from_fine : (es : List Entry) (m : Mark) (ms : List Mark) → Fine es m ms → kept es (m ∷ ms) ≡ true
from_fine es m ms f =
    and_from (eqb m.start (top ms)) (leb m.size 32 && (exact m.words (back es m.start m.size) && kept es ms)) (eq-eqb m.start (top ms) f.start)
    (and_from (leb m.size 32) (exact m.words (back es m.start m.size) && kept es ms) (le-leb m.size 32 f.size)
    (and_from (exact m.words (back es m.start m.size)) (kept es ms) f.words f.rest))

top_low : (es : List Entry) (ms : List Mark) → kept es ms ≡ true → top ms ≤ 32 * length ms
top_low es [] h = omega arith
top_low es (m ∷ ms) h = let f = fine es m ms h in omega (arith, f.start, f.size, top_low es ms f.rest)

-- a write behind the entries leaves them
back_set : (es : List Entry) (i n j : ℕ) (e : Entry) → i + n ≤ j → back (set es j e) i n ≡ back es i n
back_set es i zero j e h = refl
back_set es i (suc n) j e h =
    let ne : i + n ≢ j = omega arith in
    let f : get_or (set es j e) (i + n) none ≡ get_or es (i + n) none = rw get_or-set_other in
    let r = back_set es i n j e (omega arith) in
    cc

parts_set : (es : List Entry) (ms : List Mark) (j : ℕ) (e : Entry) → kept es ms ≡ true → top ms ≤ j → parts (set es j e) ms ≡ parts es ms
parts_set es [] j e h l = refl
parts_set es (m ∷ ms) j e h l =
    let f = fine es m ms h in
    let b = back_set es m.start m.size j e l in
    let r = parts_set es ms j e f.rest (omega (arith, f.start)) in
    cc

kept_set : (es : List Entry) (ms : List Mark) (j : ℕ) (e : Entry) → kept es ms ≡ true → top ms ≤ j → kept (set es j e) ms ≡ true
kept_set es [] j e h l = refl
kept_set es (m ∷ ms) j e h l =
    let f = fine es m ms h in
    from_fine (set es j e) m ms (record {
      start = f.start;
      size = f.size;
      words = ap (exact m.words) (back_set es m.start m.size j e l) ∙ f.words;
      rest = kept_set es ms j e f.rest (omega (arith, f.start));
    })

-- ---- one entry more

back_more : (es : List Entry) (i n : ℕ) (e : Entry) → i + n < length es → back (set es (i + n) e) i (n + 1) ≡ e ∷ back es i n
back_more es i n e h =
    let f : get_or (set es (i + n) e) (i + n) none ≡ e = rw get_or-set_same in
    let r = back_set es i n (i + n) e (omega arith) in
    rw add-one (cc)

added_to : (s : List Entry) (ss : List (List Entry)) (e : Entry) → e.word < 32 → recorded s e.word ≡ false → (e ∷ s) ∷ ss ≡ noted (s ∷ ss) e
added_to s ss e l h = let t = lt-ltb e.word 32 l in rw (t, h) refl

not_added : (s : List Entry) (ss : List (List Entry)) (e : Entry) → recorded s e.word ≡ true → s ∷ ss ≡ noted (s ∷ ss) e
not_added s ss e h = both (ltb e.word 32)
  where
    both : (b : Bool) → s ∷ ss ≡ cond b (added s e) s ∷ ss
    both true = rw h refl
    both false = refl

pub record Added (es : List Entry) (m : Mark) (ms : List Mark) (e : Entry) (o : ℕ) : Type 0 where
  pub place : m.start + m.size < 1024
  pub small : m.size < 32
  pub value : parts (set es (m.start + m.size) e) (record { start = m.start; size = m.size + 1; words = bit_or m.words o } ∷ ms) ≡ noted (parts es (m ∷ ms)) e
  pub ok : kept (set es (m.start + m.size) e) (record { start = m.start; size = m.size + 1; words = bit_or m.words o } ∷ ms) ≡ true

adds : (es : List Entry) (m : Mark) (ms : List Mark) (e : Entry) (o : ℕ) → kept es (m ∷ ms) ≡ true → length es ≡ 1024 → length ms < 32
    → e.word < 32 → m.words < 2 ^ 32 → bit m.words e.word ≡ false → Only e.word o → Added es m ms e o
adds es m ms e o h l k lt low f one =
    let g = fine es m ms h in
    let s = back es m.start m.size in
    let x = exact_more m.words o e s g.words f one in
    let most = or_lt 32 m.words o low (rw one.is (pow-lt lt)) in
    let r = room (bit_or m.words o) (e ∷ s) x in
    let small : m.size < 32 = omega (arith, r, ones-le 32 (bit_or m.words o) most, length_back es m.start m.size) in
    let place : m.start + m.size < 1024 = omega (arith, g.start, top_low es ms g.rest) in
    let b = back_more es m.start m.size e (omega arith) in
    let below : top ms ≤ m.start + m.size = omega (arith, g.start) in
    record {
      place = place;
      small = small;
      value = ap (λ (y : List Entry). y ∷ parts (set es (m.start + m.size) e) ms) b
          ∙ ap (λ (y : List (List Entry)). (e ∷ s) ∷ y) (parts_set es ms (m.start + m.size) e g.rest below)
          ∙ added_to s (parts es ms) e lt (exact_recorded m.words s e.word g.words ∙ f);
      ok = from_fine (set es (m.start + m.size) e) (record { start = m.start; size = m.size + 1; words = bit_or m.words o }) ms (record {
        start = g.start;
        size = omega arith;
        words = ap (exact (bit_or m.words o)) b ∙ x;
        rest = kept_set es ms (m.start + m.size) e g.rest below;
      });
    }

-- ---- one entry fewer

back_less : (es : List Entry) (i n : ℕ) → 0 < n → back es i n ≡ get_or es (i + n - 1) none ∷ back es i (n - 1)
back_less es i zero h = absurd (omega arith)
back_less es i (suc n) h =
    let e : suc n - 1 ≡ n = omega arith in
    let f : i + suc n - 1 ≡ i + n = omega arith in
    rw (e, f) refl

pub record Taken (es : List Entry) (m : Mark) (ms : List Mark) (e : Entry) : Type 0 where
  pub small : e.word < 32
  pub newest : Some e ≡ newest_entry (parts es (m ∷ ms))
  pub rest : (o : ℕ) → parts es (record { start = m.start; size = m.size - 1; words = bit_xor m.words o } ∷ ms) ≡ popped (parts es (m ∷ ms))
  pub ok : (o : ℕ) → Only e.word o → kept es (record { start = m.start; size = m.size - 1; words = bit_xor m.words o } ∷ ms) ≡ true

takes : (es : List Entry) (m : Mark) (ms : List Mark) → kept es (m ∷ ms) ≡ true → 0 < m.size → m.words < 2 ^ 32
    → Taken es m ms (get_or es (m.start + m.size - 1) none)
takes es m ms h pos low =
    let g = fine es m ms h in
    let e = get_or es (m.start + m.size - 1) none in
    let s = back es m.start (m.size - 1) in
    let b : back es m.start m.size ≡ e ∷ s = back_less es m.start m.size pos in
    let p = and_parts (bit m.words e.word) (exact (bit_xor m.words (2 ^ e.word)) s) (ap (exact m.words) (sym b) ∙ g.words) in
    record {
      small = in_word m.words e.word low p.0;
      newest = ap (λ (y : List Entry). newest_entry (y ∷ parts es ms)) (sym b);
      rest = λ o. ap (λ (y : List Entry). popped (y ∷ parts es ms)) (sym b);
      ok = λ o one. from_fine es (record { start = m.start; size = m.size - 1; words = bit_xor m.words o }) ms (record {
        start = g.start;
        size = omega (arith, g.size);
        words = ap (λ (y : ℕ). exact (bit_xor m.words y) s) one.is ∙ p.1;
        rest = g.rest;
      });
    }

-- ---- the newest mark m of the marks, over the others o

kept_top : (es : List Entry) (ms : List Mark) (m : Mark) (o : List Mark) → reverse ms ≡ m ∷ o → kept es (reverse ms) ≡ true → kept es (m ∷ o) ≡ true
kept_top es ms m o was k = ap (kept es) (sym was) ∙ k

pub fine_top : (es : List Entry) (ms : List Mark) (m : Mark) (o : List Mark) → reverse ms ≡ m ∷ o → kept es (reverse ms) ≡ true → Fine es m o
fine_top es ms m o was k = fine es m o (kept_top es ms m o was k)

pub fewer_others : (ms : List Mark) (m : Mark) (o : List Mark) → reverse ms ≡ m ∷ o → length o < length ms
fewer_others ms m o was = omega (arith, length-reverse ms, ap length was)

pub ends : (es : List Entry) (ms : List Mark) (m : Mark) (o : List Mark) → reverse ms ≡ m ∷ o → length ms ≤ 32 → kept es (reverse ms) ≡ true → m.start + m.size ≤ 1024
ends es ms m o was few k = omega (arith, top_low es (m ∷ o) (kept_top es ms m o was k), fewer_others ms m o was)

pub adds_top : (es : List Entry) (ms : List Mark) (m : Mark) (o : List Mark) (e : Entry) (b : ℕ) → reverse ms ≡ m ∷ o → length ms ≤ 32 → length es ≡ 1024 → kept es (reverse ms) ≡ true
    → e.word < 32 → m.words < 2 ^ 32 → bit m.words e.word ≡ false → Only e.word b → Added es m o e b
adds_top es ms m o e b was few l k lt low f one = adds es m o e b (kept_top es ms m o was k) l (omega (arith, fewer_others ms m o was)) lt low f one

pub record Noted (es es' : List Entry) (ms ms' : List Mark) (e : Entry) : Type 0 where
  pub value : parts es' (reverse ms') ≡ noted (parts es (reverse ms)) e
  pub ok : kept es' (reverse ms') ≡ true
  pub end : top (reverse ms') ≤ top (reverse ms) + 1
  pub rest : (i : ℕ) → top (reverse ms) < i → get_or es' i none ≡ get_or es i none

pub notes : (es : List Entry) (ms ms' : List Mark) (m : Mark) (o : List Mark) (e x : Entry) (b i : ℕ) → reverse ms ≡ m ∷ o
    → reverse ms' ≡ record { start = m.start; size = m.size + 1; words = bit_or m.words b } ∷ o
    → Added es m o e b → x ≡ e → i ≡ m.start + m.size → Noted es (set es i x) ms ms' e
notes es ms ms' m o e x b i was now a is at =
    let high = ap top was in
    subst (λ (j : ℕ). Noted es (set es j x) ms ms' e) (sym at) (record {
      value = rw (is, now, was) a.value;
      ok = rw (is, now) a.ok;
      end = omega (arith, ap top now, high);
      rest = λ k h. get_or-set_other es (m.start + m.size) k x none (omega (arith, high));
    })

pub notes_none : (es : List Entry) (ms : List Mark) (m : Mark) (o : List Mark) (e : Entry) → reverse ms ≡ m ∷ o → kept es (reverse ms) ≡ true
    → bit m.words e.word ≡ true → parts es (reverse ms) ≡ noted (parts es (reverse ms)) e
notes_none es ms m o e was k h =
    let g = fine_top es ms m o was k in
    let s = back es m.start m.size in
    rw was (not_added s (parts es o) e (exact_recorded m.words s e.word g.words ∙ h))

pub takes_top : (es : List Entry) (ms : List Mark) (m : Mark) (o : List Mark) (i : ℕ) → reverse ms ≡ m ∷ o → kept es (reverse ms) ≡ true → 0 < m.size → m.words < 2 ^ 32
    → i ≡ m.start + m.size - 1 → Taken es m o (get_or es i none)
takes_top es ms m o i was k some low at = subst (λ (j : ℕ). Taken es m o (get_or es j none)) (sym at) (takes es m o (kept_top es ms m o was k) some low)

-- ---- one mark more

pub marks_more : (es : List Entry) (ms : List Mark) (i : ℕ) → length ms < 32 → kept es (reverse ms) ≡ true → i ≡ top (reverse ms)
    → (parts es (reverse (ms ++ (record { start = i; size = 0; words = 0 } ∷ []))) ≡ marked (parts es (reverse ms)))
    × (kept es (reverse (ms ++ (record { start = i; size = 0; words = 0 } ∷ []))) ≡ true)
marks_more es ms i most k e =
    let m : Mark = record { start = i; size = 0; words = 0 } in
    let more = newest_more ms m in
    let few = lt-ltb (length (parts es (reverse ms))) 32 (omega (arith, length_parts es (reverse ms), length-reverse ms)) in
    (rw (more, few) refl, rw more (from_fine es m (reverse ms) (record { start = e; size = omega arith; words = refl; rest = k })))

-- with 32 marks there is none more
pub marks_full : (es : List Entry) (ms : List Mark) → 32 ≤ length ms → parts es (reverse ms) ≡ marked (parts es (reverse ms))
marks_full es ms full =
    let many = le-ltb (length (parts es (reverse ms))) 32 (omega (arith, length_parts es (reverse ms), length-reverse ms)) in
    rw many refl

pub pops : (es : List Entry) (ms ms' : List Mark) (m : Mark) (o : List Mark) (e : Entry) (b : ℕ) → reverse ms ≡ m ∷ o
    → reverse ms' ≡ record { start = m.start; size = m.size - 1; words = bit_xor m.words b } ∷ o
    → Taken es m o e → Only e.word b
    → (Some e ≡ newest_entry (parts es (reverse ms))) × (parts es (reverse ms') ≡ popped (parts es (reverse ms))) × (kept es (reverse ms') ≡ true)
pops es ms ms' m o e b was now k one = (rw was k.newest, rw (was, now) (k.rest b), rw now (k.ok b one))
