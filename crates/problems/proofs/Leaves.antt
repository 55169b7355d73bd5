use Rattle.std.proofs.Common.{◌≡◌, ℕ, zero, suc, ◌^◌, ◌<◌, ◌≤◌, Bool, true, false, cond, ltb, ◌⊎◌, List, [], ◌∷◌, length, get_or, sym, refl, ap, ◌∙◌, subst, inl, inr, arith, pow_pos}
use lib.Count.{ones, count_trailing_zeros}
use lib.Pow.{pow-lt}
use Rattle.std.proofs.lemmas.List.{get_or_past, length-replicate, ext_get_or}
use Rattle.std.proofs.lemmas.Bool.{cases_eq, cases_lt, both_ways, cond-true, cond-false, lt-ltb, le-ltb}
use Rattle.trees.specs.Trees.{Leads, Solution}
use Rattle.trees.specs.declared.Status.{Status}
use Rattle.trees.specs.declared.Status.TheVariants.{Failed, Solved, Choice}
use Rattle.words.specs.Words.{bit, has, Inside, Fit, Proper}
use Rattle.nodes.specs.Choosing.{Filled, Chosen, status, chosen, smallest}
use Rattle.words.proofs.Bit.{bit_zero, bit_pow_same, some_bit, ones_mono}
use Rattle.words.proofs.Inside.{same_node, inside_le, in_word}
use Rattle.nodes.proofs.Emptiness.{empty?}
use Rattle.nodes.proofs.Chosen.{failed_empty, solved_pow, choice_chosen, choice_is, pow_solved}
use Rattle.nodes.proofs.Counts.{ones_pow, pow_value}
use Rattle.propagation.specs.Networks.{Network, Supported, Sane, Assigns, dead}
use Rattle.propagation.specs.Closing.{closure, total, words}
use Rattle.propagation.proofs.Closures.{closure_supported, dead_word, closure_is, total_le, length_words, get_or_words}
use Rattle.problems.specs.Problems.{cut, values, tree_of, step, Solves, LeavesSolve}
use Rattle.problems.proofs.Narrowing.{Lone, Open, part, dropped, part_inside, part_fit, part_proper, part_less, side, apart}

-- ---- what a status tells

pub cases_status : (s : Status) → (s ≡ Failed) ⊎ ((s ≡ Solved) ⊎ ((c : ℕ × ℕ) × (s ≡ Choice c)))
cases_status Failed = inl refl
cases_status Solved = inr (inl refl)
cases_status (Choice c) = inr (inr (c, refl))

-- a word with more than one value has one besides v
pub another : (w v : ℕ) → 1 < ones w → (u : ℕ) × (bit w u ≡ true) × (u ≡ v → ⊥)
another w v h = elim (cases_eq (cut w v false) 0) [
  | inl z ↦ absurd (omega (
    arith,
    h,
    ones_pow v,
    ones_mono w (2 ^ v) (λ u b. elim (cases_eq u v) [
      | inl e ↦ ap (bit (2 ^ v)) e ∙ bit_pow_same v
      | inr ne ↦ absurd (both_ways (bit 0 u) (bit_zero u) (ap (λ (x : ℕ). bit x u) (sym z) ∙ (dropped w v).stays u b ne))
    ]),
  ))
  | inr ne ↦ (let u = some_bit (cut w v false) ne in let q = (dropped w v).only u.0 u.1 in (u.0, q.0, q.1))
]

pub choice_open : (w : ℕ) (n : List ℕ) → Fit n → (c : ℕ × ℕ) → status w n ≡ Choice c → Open w n (chosen n w) (smallest w n)
choice_open w n fit c e =
    let P : ℕ × ℕ → Type 0 = (λ d. Chosen w n d.0 d.1) in
    let q = subst P (choice_is w n c e) (choice_chosen w n c fit e).1 in
    let more = another (get_or n (chosen n w) 0) (smallest w n) q.several in
    record { below = q.below; there = q.smallest.there; more = more.0; also = more.1; other = more.2 }

-- ---- the closure of a node lies inside it

pub closure_inside : (p : Network) → Sane p → (n : List ℕ) → Fit n → Inside (closure p n) n × Fit (closure p n)
closure_inside p s n fit =
    let c = closure_is p s n fit in
    let P : List ℕ → Type 0 = (λ m. Inside m n × Fit m) in
    elim (empty? p.width c.node) [
      | inl e ↦ subst P (sym (c.fails e)) ((λ i v h. absurd (both_ways (has dead i v) (ap (λ (w : ℕ). bit w v) (dead_word i) ∙ bit_zero v) h)), record { long = length-replicate {A = ℕ} 32 0; small = λ i. omega (arith, dead_word i) })
      | inr f ↦ subst P (sym (c.alive f)) (c.largest.inside, record { long = c.long; small = λ i. omega (arith, inside_le c.node n c.largest.inside i, fit.small i) })
    ]

pub closure_proper : (p : Network) → Sane p → (w : ℕ) (n : List ℕ) → Proper w n → Proper w (closure p n)
closure_proper p s w n pr =
    let k = closure_inside p s n pr.fit in
    record { fit = k.1; clear = λ i h. omega (arith, inside_le (closure p n) n k.0 i, pr.clear i h) }

-- a supported assignment inside n is inside the closure of n
pub keeps : (p : Network) → Sane p → (n o : List ℕ) → Fit n → Lone p.width o → Supported p o → Inside o n → Inside o (closure p n)
keeps p s n o fit one sup h =
    let c = closure_is p s n fit in
    let i : Inside o c.node = c.largest.largest o h sup in
    let full : Filled p.width c.node = (λ j l e. both_ways (has c.node j (one.value j)) (ap (λ (w : ℕ). bit w (one.value j)) e ∙ bit_zero (one.value j)) (i j (one.value j) (one.there j l))) in
    let P : List ℕ → Type 0 = (λ m. Inside o m) in
    subst P (sym (c.alive full)) i

-- ---- down the tree

not_solved : (c : ℕ × ℕ) (s : Status) → s ≡ Choice c → s ≡ Solved → ⊥
not_solved c s e f = let z : ◌≡◌ {A = ℕ} 0 1 = cc in omega arith

-- the lowest values of a solved node are its assignment
pub solved_assigns : (w : ℕ) (m : List ℕ) → Proper w m → status w m ≡ Solved → Assigns w (values w m) m
solved_assigns w m pr e =
    let one = solved_pow w m pr.fit e in
    let f : ℕ → ℕ = (λ i. count_trailing_zeros 32 (get_or m i 0)) in
    let at : (i : ℕ) → i < w → get_or (values w m) i 0 ≡ f i = (λ i l. get_or_words f w 0 i l ∙ ap f (omega arith)) in
    record {
      long = length_words f w 0;
      value = λ i l. one i l ∙ ap (λ (v : ℕ). 2 ^ v) (sym (at i l));
      clear = pr.clear;
    }

module _ {C : Type 0} (p : Network) (s : Sane p) (high : p.width ≤ 32) (start : List ℕ) (bound : List ℕ → C) where
  -- the node below a choice node
  pub step_inside : (n : List ℕ) (a : ℕ) → Proper p.width n → Inside (step p n a) n × Proper p.width (step p n a)
  unfolding step
  step_inside n a pr =
      let x = chosen n p.width in let v = smallest p.width n in
      let b = lib.Dec.eqb a 0 in
      let k = closure_inside p s (part n x v b) (part_fit n x v pr.fit b) in
      ((λ i u h. part_inside n x v pr.fit b i u (k.0 i u h)), closure_proper p s p.width (part n x v b) (part_proper n x v pr.fit p.width pr b))

  pub leads_inside : (path n m : List ℕ) → Proper p.width n → Leads (tree_of p start bound) n path m → Inside m n × Proper p.width m
  leads_inside [] n m pr e = let P : List ℕ → Type 0 = (λ k. Inside k n × Proper p.width k) in subst P e ((λ i v h. h), pr)
  leads_inside (a ∷ path) n m pr l =
      let k = step_inside n a pr in
      let r = leads_inside path (step p n a) m k.1 l.2 in
      ((λ i v h. k.0 i v (r.0 i v h)), r.1)

  -- every node of the tree is the closure of a node
  abbrev Closed : List ℕ → Type 0
  Closed m = (q : List ℕ) × Fit q × (m ≡ closure p q)

  leads_closed : (path n m : List ℕ) → Proper p.width n → Closed n → Leads (tree_of p start bound) n path m → Closed m
  unfolding step
  leads_closed [] n m pr c e = let P : List ℕ → Type 0 = (λ k. Closed k) in subst P e c
  leads_closed (a ∷ path) n m pr c l =
      let x = chosen n p.width in let v = smallest p.width n in
      let b = lib.Dec.eqb a 0 in
      leads_closed path (step p n a) m (step_inside n a pr).1 (part n x v b, part_fit n x v pr.fit b, refl) l.2

  -- ---- every supported assignment inside n is at a leaf below n

  solved_same : (n o : List ℕ) → Proper p.width n → Lone p.width o → Inside o n → status p.width n ≡ Solved → n ≡ o
  solved_same n o pr one h e = same_node n o (pr.fit.long ∙ sym one.proper.fit.long) back h
    where
      back : Inside n o
      back i u t = elim (cases_lt i p.width) [
        | inl l ↦ (let q = solved_pow p.width n pr.fit e i l in
            let a : u ≡ count_trailing_zeros 32 (get_or n i 0) = pow_value (count_trailing_zeros 32 (get_or n i 0)) u (ap (λ (w : ℕ). bit w u) (sym q) ∙ t) in
            let b : one.value i ≡ count_trailing_zeros 32 (get_or n i 0) = pow_value (count_trailing_zeros 32 (get_or n i 0)) (one.value i) (ap (λ (w : ℕ). bit w (one.value i)) (sym q) ∙ h i (one.value i) (one.there i l)) in
            ap (has o i) (a ∙ sym b) ∙ one.there i l)
        | inr g ↦ absurd (both_ways (has n i u) (ap (λ (w : ℕ). bit w u) (pr.clear i g) ∙ bit_zero u) t)
      ]

  reached : (fuel : ℕ) (n o : List ℕ) → total n < fuel → Proper p.width n → Lone p.width o → Supported p o → Inside o n
      → (path : List ℕ) × Leads (tree_of p start bound) n path o
  unfolding step
  reached zero n o l pr one sup h = absurd (omega arith)
  reached (suc fuel) n o l pr one sup h = elim (cases_status (status p.width n)) [
    | inl e ↦ (let z = failed_empty p.width n pr.fit e in
        absurd (both_ways (has n z.0 (one.value z.0)) (ap (λ (w : ℕ). bit w (one.value z.0)) z.2 ∙ bit_zero (one.value z.0)) (h z.0 (one.value z.0) (one.there z.0 z.1))))
    | inr r ↦ elim r [
      | inl e ↦ ([], solved_same n o pr one h e)
      | inr e ↦ (let op = choice_open p.width n pr.fit e.0 e.1 in
          let sd = side p.width n (chosen n p.width) (smallest p.width n) pr.fit high op o one h in
          go (λ q lt pq sq. reached fuel q o lt pq one sup sq) op e.0 e.1 sd.0 sd.1)
    ]
  ]
    where
      below : ((q : List ℕ) → total q < fuel → Proper p.width q → Inside o q → (path : List ℕ) × Leads (tree_of p start bound) q path o)
          → (b : Bool) → Open p.width n (chosen n p.width) (smallest p.width n) → Inside o (part n (chosen n p.width) (smallest p.width n) b)
          → (path : List ℕ) × Leads (tree_of p start bound) (closure p (part n (chosen n p.width) (smallest p.width n) b)) path o
      below again b op g =
          let x = chosen n p.width in let v = smallest p.width n in
          let q = part n x v b in
          let pq = part_proper n x v pr.fit p.width pr b in
          let c = closure_proper p s p.width q pq in
          let tl : total (closure p q) ≤ total q = total_le (closure p q) q (c.fit.long ∙ sym pq.fit.long) (inside_le (closure p q) q (closure_inside p s q pq.fit).0) in
          again (closure p q) (omega (arith, tl, part_less p.width n x v pr.fit high op b)) c (keeps p s q o pq.fit one sup g)

      go : ((q : List ℕ) → total q < fuel → Proper p.width q → Inside o q → (path : List ℕ) × Leads (tree_of p start bound) q path o)
          → Open p.width n (chosen n p.width) (smallest p.width n) → (c : ℕ × ℕ) → status p.width n ≡ Choice c → (b : Bool)
          → Inside o (part n (chosen n p.width) (smallest p.width n) b) → (path : List ℕ) × Leads (tree_of p start bound) n path o
      go again op c e true g = let r = below again true op g in (0 ∷ r.0, ((c, e), omega arith, r.1))
      go again op c e false g = let r = below again false op g in (1 ∷ r.0, ((c, e), omega arith, r.1))

  -- ---- one assignment, one path

  two_sides : (path path' n o : List ℕ) → Proper p.width n → Lone p.width o → Leads (tree_of p start bound) n (0 ∷ path) o → Leads (tree_of p start bound) n (1 ∷ path') o → ⊥
  unfolding step
  two_sides path path' n o pr one l l' =
      apart p.width n (chosen n p.width) (smallest p.width n) pr.fit high (choice_open p.width n pr.fit l.0.0 l.0.1) o one (down true path l.2) (down false path' l'.2)
    where
      down : (b : Bool) (path : List ℕ) → Leads (tree_of p start bound) (closure p (part n (chosen n p.width) (smallest p.width n) b)) path o
          → Inside o (part n (chosen n p.width) (smallest p.width n) b)
      down b path l =
          let x = chosen n p.width in let v = smallest p.width n in
          let q = part n x v b in
          let pq = part_proper n x v pr.fit p.width pr b in
          let k = closure_inside p s q pq.fit in
          λ i u h. k.0 i u ((leads_inside path (closure p q) o (closure_proper p s p.width q pq) l).0 i u h)

  one_path : (path path' n o : List ℕ) → Proper p.width n → Lone p.width o → status p.width o ≡ Solved
      → Leads (tree_of p start bound) n path o → Leads (tree_of p start bound) n path' o → path ≡ path'
  one_path [] [] n o pr one d l l' = refl
  one_path [] (b ∷ path') n o pr one d l l' = absurd (not_solved l'.0.0 (status p.width n) l'.0.1 (ap (status p.width) l ∙ d))
  one_path (a ∷ path) [] n o pr one d l l' = absurd (not_solved l.0.0 (status p.width n) l.0.1 (ap (status p.width) l' ∙ d))
  one_path (zero ∷ path) (zero ∷ path') n o pr one d l l' = ap (λ (q : List ℕ). 0 ∷ q) (one_path path path' (step p n 0) o (step_inside n 0 pr).1 one d l.2 l'.2)
  one_path (suc zero ∷ path) (suc zero ∷ path') n o pr one d l l' = ap (λ (q : List ℕ). 1 ∷ q) (one_path path path' (step p n 1) o (step_inside n 1 pr).1 one d l.2 l'.2)
  one_path (zero ∷ path) (suc zero ∷ path') n o pr one d l l' = absurd (two_sides path path' n o pr one l l')
  one_path (suc zero ∷ path) (zero ∷ path') n o pr one d l l' = absurd (two_sides path' path n o pr one l' l)
  one_path (suc (suc a) ∷ path) (b ∷ path') n o pr one d l l' = absurd (omega (arith, l.1))
  one_path (zero ∷ path) (suc (suc b) ∷ path') n o pr one d l l' = absurd (omega (arith, l'.1))
  one_path (suc zero ∷ path) (suc (suc b) ∷ path') n o pr one d l l' = absurd (omega (arith, l'.1))

  -- ---- assignments as nodes

  assigned_lone : (a o : List ℕ) → Proper p.width o → Assigns p.width a o → Lone p.width o
  assigned_lone a o pr g = record {
    proper = pr;
    value = λ i. get_or a i 0;
    there = λ i l. ap (λ (w : ℕ). bit w (get_or a i 0)) (g.value i l) ∙ bit_pow_same (get_or a i 0);
    alone = λ i u l h. pow_value (get_or a i 0) u (ap (λ (w : ℕ). bit w u) (sym (g.value i l)) ∙ h);
  }

  assigned_same : (a m m' : List ℕ) → Proper p.width m → Proper p.width m' → Assigns p.width a m → Assigns p.width a m' → m ≡ m'
  assigned_same a m m' pm pm' g g' = ext_get_or 0 m m' (pm.fit.long ∙ sym pm'.fit.long) (λ i _. elim (cases_lt i p.width) [
    | inl l ↦ g.value i l ∙ sym (g'.value i l)
    | inr h ↦ g.clear i h ∙ sym (g'.clear i h)
  ])

  -- ---- the theorem

  module _ (sp : Proper p.width start) where
    sound : (path m : List ℕ) → Solution (tree_of p start bound) path m → (a : List ℕ) × Assigns p.width a m × Solves p start a
    sound path m q =
        let root = closure_proper p s p.width start sp in
        let k = leads_inside path (closure p start) m root q.0 in
        let c = leads_closed path (closure p start) m root (start, sp.fit, refl) q.0 in
        let a = values p.width m in
        let g = solved_assigns p.width m k.1 q.1 in
        let P : List ℕ → Type 0 = (λ x. Supported p x) in
        let sup : Supported p m = subst P (sym c.2) (closure_supported p c.0 (closure p c.0) (closure_is p s c.0 c.1)) in (
          a,
          g,
          record {
            long = g.long;
            within = λ i l. (closure_inside p s start sp.fit).0 i (get_or a i 0) (k.0 i (get_or a i 0) (ap (λ (w : ℕ). bit w (get_or a i 0)) (g.value i l) ∙ bit_pow_same (get_or a i 0)));
            meets = λ j l. s.met j l a m g (sup j l);
          },
        )

    node_of : List ℕ → List ℕ
    node_of a = words (λ i. cond (ltb i p.width) (2 ^ get_or a i 0) 0) 32 0

    complete : (a : List ℕ) → Solves p start a → (path : List ℕ) × ((m : List ℕ) × (Solution (tree_of p start bound) path m × Assigns p.width a m))
    unfolding node_of
    complete a q =
        let o = node_of a in
        let f : ℕ → ℕ = (λ i. cond (ltb i p.width) (2 ^ get_or a i 0) 0) in
        let at : (i : ℕ) → i < 32 → get_or o i 0 ≡ cond (ltb i p.width) (2 ^ get_or a i 0) 0 = (λ i l. get_or_words f 32 0 i l ∙ ap f (omega arith)) in
        let long : length o ≡ 32 = length_words f 32 0 in
        let on : (i : ℕ) → i < p.width → get_or o i 0 ≡ 2 ^ get_or a i 0 = (λ i l. at i (omega arith) ∙ cond-true (ltb i p.width) (2 ^ get_or a i 0) 0 (lt-ltb i p.width l)) in
        let off : (i : ℕ) → p.width ≤ i → get_or o i 0 ≡ 0 = (λ i h. elim (cases_lt i 32) [
          | inl l ↦ at i l ∙ cond-false (ltb i p.width) (2 ^ get_or a i 0) 0 (le-ltb i p.width h)
          | inr g ↦ get_or_past o i 0 (omega (arith, long))
        ]) in
        let small : (i : ℕ) → get_or o i 0 < 2 ^ 32 = (λ i. elim (cases_lt i p.width) [
          | inl l ↦ omega (arith, on i l, pow-lt (in_word (get_or start i 0) (get_or a i 0) (sp.fit.small i) (q.within i l)))
          | inr h ↦ omega (arith, off i h, pow_pos 32)
        ]) in
        let pr : Proper p.width o = record { fit = record { long = long; small = small }; clear = off } in
        let g : Assigns p.width a o = record { long = q.long; value = on; clear = off } in
        let one = assigned_lone a o pr g in
        let sup : Supported p o = (λ k l. s.holds k l a o g (q.meets k l)) in
        let within : Inside o start = (λ i u h. elim (cases_lt i p.width) [
          | inl l ↦ ap (has start i) (pow_value (get_or a i 0) u (ap (λ (w : ℕ). bit w u) (sym (on i l)) ∙ h)) ∙ q.within i l
          | inr n ↦ absurd (both_ways (has o i u) (ap (λ (w : ℕ). bit w u) (off i n) ∙ bit_zero u) h)
        ]) in
        let r = reached (suc (total (closure p start))) (closure p start) o (omega arith) (closure_proper p s p.width start sp) one sup (keeps p s start o sp.fit one sup within) in
        (r.0, (o, ((r.1, pow_solved p.width o (λ i l. (get_or a i 0, on i l))), g)))

    once : (a path m path' m' : List ℕ) → Solution (tree_of p start bound) path m → Solution (tree_of p start bound) path' m'
        → Assigns p.width a m → Assigns p.width a m' → path ≡ path'
    once a path m path' m' q q' g g' =
        let root = closure_proper p s p.width start sp in
        let k = leads_inside path (closure p start) m root q.0 in
        let k' = leads_inside path' (closure p start) m' root q'.0 in
        let e = assigned_same a m m' k.1 k'.1 g g' in
        let P : List ℕ → Type 0 = (λ x. Leads (tree_of p start bound) (closure p start) path' x) in
        one_path path path' (closure p start) m root (assigned_lone a m k.1 g) q.1 q.0 (subst P (sym e) q'.0)

    pub leaves_solve : LeavesSolve p start bound
    leaves_solve = record { sound = sound; complete = complete; once = once }
