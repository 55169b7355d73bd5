use Rattle.std.specs.Prelude.{◌≡◌, ℕ, zero, suc, ◌+◌, ◌%◌, ◌<◌, ◌≤◌, Bool, true, false, cond, List, [], ◌∷◌, ◌==◌, ◌≢◌, nat_le, nat_lt, slice_index, refl}
use Rattle.std.proofs.Common.{arith}
use Rattle.std.proofs.lemmas.List.{length-reverse}
use Rattle.std.proofs.lemmas.Bool.{ltb-true, ltb-false, leb-true, eqb-true, eqb-false, lt-ltb, le-ltb, le-leb}
use Rattle.trees.specs.Trees.{Chooses, Orderly, StrictOrder}
use Rattle.trees.specs.declared.Status.TheVariants.{Failed, Solved, Choice}
use Rattle.space.specs.Laws.{Lawful}
use Rattle.staircase.specs.declared.stair.Stair.{Stair}
use Rattle.staircase.specs.Stairs.{stair_status, climbed, staircase, standing, Stands}

-- a choice is passed on by both tests, and a solved stair by the first
chosen : (b d : Bool) (x c : ℕ × ℕ) → cond b Solved (cond d Failed (Choice x)) ≡ Choice c → b ≡ false
chosen false d x c h = refl
chosen true d x c h = cc

topped : (b d : Bool) (x : ℕ × ℕ) → cond b Solved (cond d Failed (Choice x)) ≡ Solved → b ≡ true
topped true d x h = refl
topped false true x h = cc
topped false false x h = cc

-- a stair with a choice is below the top
below_top : (n : Stair) → Chooses staircase n → 0 < n.height
below_top n c =
    let ne = eqb-false n.height 0 (chosen (n.height == 0) (nat_le 8 n.steps) (0, n.height % 2) c.0 c.1) in
    omega (arith, ne)

at_top : (n : Stair) → stair_status n ≡ Solved → n.height ≡ 0
at_top n h = eqb-true n.height 0 (topped (n.height == 0) (nat_le 8 n.steps) (0, n.height % 2) h)

low : (n : Stair) → staircase.proper n ≡ true → n.height + n.steps ≤ 10
low n p = leb-true (n.height + n.steps) 10 p

filled_word : (w i : ℕ) → i < 1 → slice_index ((1 + w) ∷ []) i ≢ 0
filled_word w zero h e = omega (arith, e)
filled_word w (suc i) h e = omega arith

-- a stair that is climbed from stays on the staircase
climb_proper : (n : Stair) (a : ℕ) → staircase.proper n ≡ true → Chooses staircase n → staircase.proper (climbed n a) ≡ true
climb_proper n a p c = le-leb _ 10 (omega (arith, low n p, below_top n c))

counts_ordered : StrictOrder nat_lt
counts_ordered = record {
  irreflexive = λ a. le-ltb a a (omega arith);
  transitive = λ a b c h k. lt-ltb a c (omega (arith, ltb-true a b h, ltb-true b c k));
  total = λ a b h k. omega (arith, ltb-false a b h, ltb-false b a k);
}

climbing : Orderly staircase nat_lt 1
climbing = record {
  root_proper = refl;
  step_proper = λ n a p c h. climb_proper n a p c;
  wide = λ n p. refl;
  rest_most = λ n p. omega (arith, low n p);
  reach_most = λ n p. omega (arith, low n p);
  rest_falls = λ n a p c h. omega (arith, below_top n c);
  reach_falls = λ n p c. omega (arith, below_top n c);
  reach_stays = λ n p c. omega arith;
  filled = λ n p h i k e. filled_word (n.height % 2) i k e;
  rises = λ n a p c h k. le-ltb _ _ (omega (arith, h));
  ordered = counts_ordered;
}

pub lawful : (n : Stair) (held : List Stair) (allowance : ℕ) → Stands n held allowance → Lawful (standing n held allowance) nat_lt
lawful n held allowance s = record {
  orderly = climbing;
  priced = λ n p h. omega (arith, at_top n h);
  current = s.0;
  nodes = s.1;
  low = omega arith;
  high = omega arith;
  capacity = omega arith;
  held = omega (arith, length-reverse held, s.2);
  allowance = s.3;
  layer = omega arith;
}
