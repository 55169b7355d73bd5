use Rattle.std.proofs.Common.{◌≡◌, ℕ, ◌<◌, ◌≤◌, Bool, cond, List, [], ◌∷◌, map, length, take, set, Some, None, Result, refl, sym, ap, subst, ◌∙◌, inl, inr, arith}
use Rattle.std.proofs.lemmas.List.{take-set-le}
use Rattle.std.proofs.Math.Seq.{set_out, take-set-lt}
use Rattle.std.proofs.lemmas.Bool.{cases_lt, lt-ltb}
use Rattle.trees.specs.Trees.{Tree}
use Rattle.space.specs.declared.refusal.Refusal.{Refusal}
use Rattle.space.specs.Meaning.{Meaning, words_now, placed}
use Rattle.space.specs.Laws.{AllProper, Lawful, NamedByWords}
use Rattle.space.specs.Calls.{Sets}
use Rattle.layers.specs.Moves.{Stepped, At}
use Rattle.trails.specs.declared.entry.Entry.{Entry}
use Rattle.trails.specs.Entries.{undone, before, newest_entry, popped, marked}
use Rattle.trails.specs.Entries as entries
use Rattle.trails.proofs.Undoing.{before_all, before_popped, length_before}
use Rattle.trailing.specs.Trailed.{held_by, Agrees, PutBack}
use Rattle.trailing.specs.Holding.{held_count}

-- how many entries there are since the newest mark
abbrev pub waiting : List (List Entry) → ℕ
waiting [] = 0
waiting (s ∷ ss) = length s

-- a write to the copy is a write to the words that count
take_set_any : (n i v : ℕ) (xs : List ℕ) → length (take n xs) ≡ n → take n (set xs i v) ≡ set (take n xs) i v
take_set_any n i v xs l = elim (cases_lt i n) [
  | inl h ↦ take-set-lt n xs i v h
  | inr g ↦ take-set-le n xs i v g ∙ sym (set_out (take n xs) i v (omega arith))
]

-- with no entry since the newest mark there is none to take off
pub none_popped : (ss : List (List Entry)) → None ≡ newest_entry ss → popped ss ≡ ss
none_popped [] none = refl
none_popped ([] ∷ ss) none = refl
none_popped ((x ∷ s) ∷ ss) none = let z : ◌≡◌ {A = ℕ} 0 1 = cc in absurd (omega arith)

-- with no entry since the newest mark, the words at it are the present ones
all_back : (ws us : List ℕ) (ss ts : List (List Entry)) → None ≡ newest_entry ts → 0 < length ss → before ts us ≡ before ss ws
    → (older : List (List ℕ)) × (before ss ws ≡ us ∷ older)
all_back ws us ss [] none some e = absurd (omega (arith, ap length e, length_before ss ws))
all_back ws us ss ([] ∷ ts) none some e = (before ts us, sym e)
all_back ws us ss ((x ∷ s) ∷ ts) none some e = let z : ◌≡◌ {A = ℕ} 0 1 = cc in absurd (omega arith)

head_is : {N : Type 0} (x y : N) (xs ys : List N) → x ∷ xs ≡ y ∷ ys → x ≡ y
head_is x y xs ys h = cc

tail_is : {N : Type 0} (x y : N) (xs ys : List N) → x ∷ xs ≡ y ∷ ys → xs ≡ ys
tail_is x y xs ys h = cc

module _ {N C : Type 0} where
  pub wide_now : (m : Meaning N C) {less : C → C → Bool} → Lawful m less → length (words_now m) ≡ m.width
  wide_now m w = w.orderly.wide m.current w.current

  -- a word is set, whatever its number
  loaded : (m n : Meaning N C) {less : C → C → Bool} (i v : ℕ) (r : Result (Unit {0}) Refusal) → Lawful m less → Sets m i v r n
      → (n ≡ placed m n.current m.held) × (words_now n ≡ set (words_now m) i v)
  loaded m n i v r w s = elim (cases_lt i m.width) [
    | inl h ↦ ((s.1.0 h).place, (s.1.0 h).words)
    | inr g ↦ (
        let e = s.1.1 g in (
          ap (λ (x : Meaning N C). placed x x.current x.held) e ∙ ap (λ (x : Meaning N C). placed m x.current m.held) (sym e),
          ap words_now e ∙ sym (set_out (words_now m) i v (omega (arith, wide_now m w))),
        ))
  ]

  -- one entry is put back
  pub puts : (m n o : Meaning N C) {less : C → C → Bool} (ss ts us : List (List Entry)) (copy : List ℕ) (e : Entry) (r : Result (Unit {0}) Refusal)
      → PutBack m n ss ts copy → Lawful n less → Some e ≡ newest_entry ts → us ≡ popped ts → Sets n e.word e.old r o
      → PutBack m o ss us (set copy e.word e.old)
  puts m n o ss ts us copy e r p w some left s =
      let l = loaded n o e.word e.old r w s in
      let wide : o.width ≡ n.width = ap (λ (x : Meaning N C). x.width) l.0 in
      let long : length (take n.width copy) ≡ n.width = ap length p.seen ∙ wide_now n w in
      record {
        place = l.0 ∙ ap (λ (x : Meaning N C). placed x o.current x.held) p.place;
        marks = ap (λ (x : List (List Entry)). before x (words_now o)) left ∙ ap (before (popped ts)) l.1 ∙ before_popped ts e (words_now n) some ∙ p.marks;
        seen = ap (λ (k : ℕ). take k (set copy e.word e.old)) wide ∙ take_set_any n.width e.word e.old copy long
            ∙ ap (λ (x : List ℕ). set x e.word e.old) p.seen ∙ sym l.1;
      }

  -- the nodes held stay where what a step changes is noted
  pub follows : (named : List ℕ → N) (m n : Meaning N C) (a : ℕ) (ss ts : List (List Entry)) (copy new : List ℕ) (most : ℕ) → Agrees named m ss copy most
      → Stepped m a n → before ts (words_now n) ≡ before ss (take n.width copy) → take n.width new ≡ words_now n
      → Agrees named n ts new most × (held_by named ts (words_now n) ≡ held_by named ss (words_now m))
  follows named m n a ss ts copy new most g e notes seen =
      let same : before ts (words_now n) ≡ before ss (words_now m) = notes ∙ ap (λ (k : ℕ). before ss (take k copy)) e.width ∙ ap (before ss) g.seen in
      let held = ap (map named) same in (
        record {
          seen = seen;
          nodes = subst (λ (t : Tree N C). AllProper t (held_by named ts (words_now n))) (sym e.tree) (subst (AllProper m.tree) (sym held) g.nodes);
          capacity = g.capacity;
          room = omega (arith, g.room, ap length same, length_before ts (words_now n), length_before ss (words_now m));
        },
        held,
      )

  -- the current words are kept from now on
  pub holds : (named : List ℕ → N) (m : Meaning N C) {less : C → C → Bool} (ss ts : List (List Entry)) (copy : List ℕ) (most : ℕ)
      → Agrees named m ss copy most → Lawful m less → NamedByWords m.tree named → length (held_by named ss (words_now m)) < most → ts ≡ marked ss
      → Agrees named m ts copy most × (held_by named ts (words_now m) ≡ m.current ∷ held_by named ss (words_now m))
  holds named m ss ts copy most a w only room e =
      let held = held_by named ss (words_now m) in
      let roomy = lt-ltb (length ss) 32 (omega (arith, a.capacity, held_count named ss (words_now m))) in
      let more : ts ≡ [] ∷ ss = e ∙ ap (λ (b : Bool). cond b ([] ∷ ss) ss) roomy in
      let here : named (words_now m) ≡ m.current = only m.current w.current in
      let now : held_by named ts (words_now m) ≡ m.current ∷ held = ap (λ (x : List (List Entry)). held_by named x (words_now m)) more ∙ ap (λ (x : N). x ∷ held) here in (
        record {
          seen = a.seen;
          nodes = subst (AllProper m.tree) (sym now) (w.current, a.nodes);
          capacity = a.capacity;
          room = omega (arith, ap length more, held_count named ss (words_now m));
        },
        now,
      )

  -- every entry since the newest mark is put back
  pub goes_back : (named : List ℕ → N) (m n : Meaning N C) {less : C → C → Bool} (ss ts : List (List Entry)) (copy new : List ℕ) (most : ℕ) (newest : N) (older : List N)
      → Agrees named m ss copy most → held_by named ss (words_now m) ≡ newest ∷ older → PutBack m n ss ts new → None ≡ newest_entry ts → Lawful n less → NamedByWords n.tree named
      → At m newest n × Agrees named n ts new most × (held_by named ts (words_now n) ≡ newest ∷ older)
  goes_back named m n ss ts copy new most newest older a h p none w only =
      let some : 0 < length ss = omega (arith, ap length h, held_count named ss (words_now m)) in
      let b = all_back (words_now m) (words_now n) ss ts none some p.marks in
      let here : named (words_now n) ≡ n.current = only n.current w.current in
      let newest-is : n.current ≡ newest = sym here ∙ head_is _ _ _ _ (sym (ap (map named) b.1) ∙ h) in
      let shape : n ≡ placed m newest m.held = p.place ∙ ap (λ (x : N). placed m x m.held) newest-is in
      let same : held_by named ts (words_now n) ≡ held_by named ss (words_now m) = ap (map named) p.marks in (
        shape ∙ ap (λ (x : Meaning N C). placed m newest x.held) (sym shape),
        record {
          seen = p.seen;
          nodes = subst (AllProper n.tree) (sym same) (subst (λ (x : Meaning N C). AllProper x.tree (held_by named ss (words_now m))) (sym p.place) a.nodes);
          capacity = a.capacity;
          room = omega (arith, a.room, ap length p.marks, length_before ts (words_now n), length_before ss (words_now m));
        },
        same ∙ h,
      )

  -- the newest mark goes, and the words at the others stay
  pub forgets : (named : List ℕ → N) (m : Meaning N C) (ss ts : List (List Entry)) (copy : List ℕ) (most : ℕ) (newest : N) (older : List N)
      → Agrees named m ss copy most → held_by named ss (words_now m) ≡ newest ∷ older → length (words_now m) ≤ 32 → ts ≡ entries.forgotten ss
      → Agrees named m ts copy most × (held_by named ts (words_now m) ≡ older)
  forgets named m [] ts copy most newest older a h low e = absurd (omega (arith, ap length h))
  forgets named m (s ∷ ss) ts copy most newest older a h low e =
      let ws = words_now m in
      let left : before ts ws ≡ before ss (undone s ws) = ap (λ (x : List (List Entry)). before x ws) e ∙ before_all ss s ws low in
      let same = ap (map named) left in (
        record {
          seen = a.seen;
          nodes = subst (AllProper m.tree) (sym same) a.nodes.1;
          capacity = a.capacity;
          room = omega (arith, a.room, ap length left, length_before ts ws, length_before ss (undone s ws));
        },
        same ∙ tail_is _ _ _ _ h,
      )
