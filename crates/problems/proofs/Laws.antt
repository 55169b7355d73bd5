use Rattle.std.proofs.Common.{◌≡◌, ℕ, zero, suc, ◌+◌, ◌-◌, ◌^◌, ◌<◌, ◌≤◌, Bool, true, ◌&&◌, eqb, ltb, List, [], ◌∷◌, length, get_or, drop, sym, refl, ap, ◌∙◌, subst, inl, inr, arith, pow_pos}
use lib.Count.{ones}
use Rattle.std.proofs.lemmas.List.{get_or-drop, get_or-take, length-take}
use Rattle.std.proofs.lemmas.Bool.{and_from, and_parts, cond-true, eqb-true, eq-eqb, lt-ltb, ltb-true}
use Rattle.trees.specs.Trees.{Orderly}
use Rattle.trees.specs.declared.Status.TheVariants.{Choice}
use Rattle.words.specs.Words.{bit, Inside, Fit, Proper}
use Rattle.nodes.specs.Choosing.{Filled, Empty, status, chosen, smallest, rest, reach, surplus, wide, empty_below}
use Rattle.words.proofs.Bit.{ones_falls, ones_mono, bit_pow_same}
use Rattle.nodes.proofs.Emptiness.{empty?, empty_from}
use Rattle.nodes.proofs.Chosen.{status_failed, solved_ones, choice_chosen, choice_is}
use Rattle.nodes.proofs.Counts.{ones_none, ones_pow, ones_inside, rest_most, reach_most, reach_mono, rest_falls, reach_falls, rest_pos, reach_pos}
use Rattle.propagation.specs.Networks.{Network, Sane}
use Rattle.propagation.specs.Closing.{closure}
use Rattle.problems.specs.Problems.{small, zeros, proper, step, values, tree_of, Priced, SolvedCosts}
use Rattle.problems.proofs.Narrowing.{Open, part, kept, at_x, part_inside, part_fit, part_differs}
use Rattle.problems.proofs.Leaves.{choice_open, closure_inside, closure_proper, solved_assigns, step_inside}

-- ---- `proper` is the test of `Proper`

small_each : (n : List ℕ) → small n ≡ true → (i : ℕ) → get_or n i 0 < 2 ^ 32
small_each [] h i = pow_pos 32
small_each (x ∷ xs) h zero = let q = and_parts (ltb x (2 ^ 32)) (small xs) h in ltb-true x (2 ^ 32) q.0
small_each (x ∷ xs) h (suc i) = small_each xs (and_parts (ltb x (2 ^ 32)) (small xs) h).1 i

each_small : (n : List ℕ) → ((i : ℕ) → get_or n i 0 < 2 ^ 32) → small n ≡ true
each_small [] h = refl
each_small (x ∷ xs) h = and_from (ltb x (2 ^ 32)) (small xs) (lt-ltb x (2 ^ 32) (h 0)) (each_small xs (λ i. h (suc i)))

zeros_each : (n : List ℕ) → zeros n ≡ true → (i : ℕ) → get_or n i 0 ≡ 0
zeros_each [] h i = refl
zeros_each (x ∷ xs) h zero = eqb-true x 0 (and_parts (eqb x 0) (zeros xs) h).0
zeros_each (x ∷ xs) h (suc i) = zeros_each xs (and_parts (eqb x 0) (zeros xs) h).1 i

each_zeros : (n : List ℕ) → ((i : ℕ) → get_or n i 0 ≡ 0) → zeros n ≡ true
each_zeros [] h = refl
each_zeros (x ∷ xs) h = and_from (eqb x 0) (zeros xs) (eq-eqb x 0 (h 0)) (each_zeros xs (λ i. h (suc i)))

pub proper_is : (w : ℕ) (n : List ℕ) → proper w n ≡ true → Proper w n
unfolding proper
proper_is w n h =
    let q = and_parts (eqb (length n) 32) (small n && zeros (drop w n)) h in
    let r = and_parts (small n) (zeros (drop w n)) q.1 in
    record {
      fit = record { long = eqb-true (length n) 32 q.0; small = small_each n r.0 };
      clear = λ i l. (let e : w + (i - w) ≡ i = omega arith in ap (λ (j : ℕ). get_or n j 0) (sym e) ∙ sym (get_or-drop w n (i - w) 0) ∙ zeros_each (drop w n) r.1 (i - w));
    }

pub is_proper : (w : ℕ) (n : List ℕ) → Proper w n → proper w n ≡ true
unfolding proper
is_proper w n p =
    and_from (eqb (length n) 32) (small n && zeros (drop w n)) (eq-eqb (length n) 32 p.fit.long)
    (and_from (small n) (zeros (drop w n)) (each_small n p.fit.small) (each_zeros (drop w n) (λ i. get_or-drop w n i 0 ∙ p.clear (w + i) (omega arith))))

-- ---- at a failed node nothing is open

rest_none : (w : ℕ) (n : List ℕ) → Empty w n → rest w n ≡ 0
rest_none w n z = cond-true (empty_below w n) 0 (surplus n w) (empty_from w n z.0 z.1 z.2)

reach_none : (w : ℕ) (n : List ℕ) → Empty w n → reach w n ≡ 0
reach_none w n z = cond-true (empty_below w n) 0 (wide n w) (empty_from w n z.0 z.1 z.2)

-- ---- each step lowers what is open

module _ {C : Type 0} (p : Network) (s : Sane p) (high : p.width ≤ 32) (start : List ℕ) (bound : List ℕ → C) where
  -- the child keeps at most what the narrowed node has
  step_at : (n : List ℕ) (a : ℕ) → Fit n → Inside (step p n a) (part n (chosen n p.width) (smallest p.width n) (eqb a 0))
  unfolding step
  step_at n a fit = (closure_inside p s (part n (chosen n p.width) (smallest p.width n) (eqb a 0)) (part_fit n (chosen n p.width) (smallest p.width n) fit (eqb a 0))).0

  module _ (n : List ℕ) (pr : Proper p.width n) (c : ℕ × ℕ) (e : status p.width n ≡ Choice c) where
    op : Open p.width n (chosen n p.width) (smallest p.width n)
    op = choice_open p.width n pr.fit c e

    full : Filled p.width n
    full = (choice_chosen p.width n c pr.fit e).0

    several : 1 < ones (get_or n (chosen n p.width) 0)
    several =
        let P : ℕ × ℕ → Type 0 = (λ d. 1 < ones (get_or n d.0 0)) in
        subst P (choice_is p.width n c e) (choice_chosen p.width n c pr.fit e).1.several

    fewer : (a : ℕ) → ones (get_or (step p n a) (chosen n p.width) 0) < ones (get_or n (chosen n p.width) 0)
    fewer a =
        let x = chosen n p.width in let v = smallest p.width n in let q = part n x v (eqb a 0) in
        let h : ones (get_or (step p n a) x 0) ≤ ones (get_or q x 0) = ones_inside (step p n a) q (step_at n a pr.fit) x in
        let l : ones (get_or q x 0) < ones (get_or n x 0) = ones_falls (get_or q x 0) (get_or n x 0) (part_inside n x v pr.fit (eqb a 0) x) (part_differs p.width n x v pr.fit high op (eqb a 0)) in
        omega arith

    rest_lower : (a : ℕ) → rest p.width (step p n a) < rest p.width n
    rest_lower a = elim (empty? p.width (step p n a)) [
      | inl z ↦ omega (arith, rest_none p.width (step p n a) z, rest_pos p.width n full (chosen n p.width) op.below several)
      | inr f ↦ rest_falls p.width (step p n a) n (step_inside p s high start bound n a pr).0 f (chosen n p.width) op.below (fewer a)
    ]

    alone : ones (get_or (step p n 0) (chosen n p.width) 0) ≤ 1
    alone =
        let x = chosen n p.width in let v = smallest p.width n in let q = part n x v true in
        let h : ones (get_or (step p n 0) x 0) ≤ ones (get_or q x 0) = ones_inside (step p n 0) q (step_at n 0 pr.fit) x in
        let l : ones (get_or q x 0) ≤ ones (2 ^ v) = ones_mono (get_or q x 0) (2 ^ v) (λ u b. (let k = kept (get_or n x 0) v u (ap (λ (w : ℕ). bit w u) (sym (at_x p.width n x v pr.fit high op true)) ∙ b) in ap (bit (2 ^ v)) k.1 ∙ bit_pow_same v)) in
        omega (arith, h, l, ones_pow v)

    reach_lower : reach p.width (step p n 0) < reach p.width n
    reach_lower = elim (empty? p.width (step p n 0)) [
      | inl z ↦ omega (arith, reach_none p.width (step p n 0) z, reach_pos p.width n full (chosen n p.width) op.below several)
      | inr f ↦ reach_falls p.width (step p n 0) n (step_inside p s high start bound n 0 pr).0 f (chosen n p.width) op.below alone several
    ]

  pub orderly : {less : C → C → Bool} {cost : List ℕ → C} → Proper p.width start → Priced p.width bound cost less → Orderly (tree_of p start bound) less p.width
  orderly sp price = record {
    root_proper = is_proper p.width (closure p start) (closure_proper p s p.width start sp);
    step_proper = λ n a h c l. is_proper p.width (step p n a) (step_inside p s high start bound n a (proper_is p.width n h)).1;
    wide = λ n h. (let q = (proper_is p.width n h).fit.long in length-take p.width n ∙ omega arith);
    rest_most = λ n h. rest_most p.width n high (proper_is p.width n h).fit;
    reach_most = λ n h. reach_most p.width n high;
    rest_falls = λ n a h c l. rest_lower n (proper_is p.width n h) c.0 c.1 a;
    reach_falls = λ n h c. reach_lower n (proper_is p.width n h) c.0 c.1;
    reach_stays = λ n h c. reach_mono p.width (step p n 1) n (step_inside p s high start bound n 1 (proper_is p.width n h)).0;
    filled = λ n h e i l z. (let q = solved_ones p.width n (proper_is p.width n h).fit e i l in
        omega (arith, q, ap ones (sym (get_or-take p.width n i 0 l) ∙ z), ones_none));
    rises = λ n a h c l alive. (let pr = proper_is p.width n h in let k = step_inside p s high start bound n a pr in
        price.rises n (step p n a) pr k.1 k.0 (λ i j z. alive (status_failed p.width (step p n a) (i, j, z))));
    ordered = price.ordered;
  }

pub solved_costs : {C : Type 0} (w : ℕ) (bound cost : List ℕ → C) {less : C → C → Bool} → Priced w bound cost less → SolvedCosts w bound cost
solved_costs w bound cost price n h e = let pr = proper_is w n h in price.exact (values w n) n pr (solved_assigns w n pr e)
