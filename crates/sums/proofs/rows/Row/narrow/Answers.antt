use Rattle.std.proofs.Common.{◌≡◌, ◌^◌, ◌<◌, ℕ, ◌++◌, length, get_or, take, drop, ℤ, ◌+ℤ◌, ◌-ℤ◌, ap, sym, refl, ◌∙◌, subst, arith, w32, w64, to_z, of_z, rules}
use Rattle.std.proofs.lemmas.Int.{to_z-of_z}
use Rattle.std.proofs.lemmas.List.{length-take}
use Rattle.std.proofs.lemmas.Result.{MatchResult-at_ok}
use Rattle.files.specs.Meaning.{bytes_of}
use Rattle.records.specs.Sums.{sum_width}
use Rattle.sum_networks.specs.Sums.{largest, totals}
use Rattle.sum_networks.specs.Steps.{Kept, Reaching, reaches}
use Rattle.sum_networks.specs.Files.{sum_at}
use Rattle.sum_networks.proofs.Cutting.{none_yet, one_more, joined, reached, need_is}
use Rattle.sum_networks.proofs.Reached.{Few, largest_few}
use Rattle.words.proofs.Made.{first_word}
use Rattle.sums.proofs.rows.Row.narrow.Goals as goal
use Rattle.sums.proofs.rows.Row.narrow.Goals.{After-most}

pub loop-i-init : goal.loop-i-init
loop-i-init c = none_yet _ _

-- the word of this turn is still the one that came in
still : (c : goal.After-most) → (c.loop-i.i < c.min-width.result) × (get_or c.loop-i.word-items c.loop-i.i 0 ≡ get_or c.args.node.now.words c.loop-i.i 0)
still c =
    let f = first_word c.min-width.result c.loop-i.i c.args.node.now.words c.loop-i-test.true in
    (f.0, c.loop-i.invariant.ahead c.loop-i.i (omega arith) ∙ f.1)

limits : (c : goal.After-most) → Few c.most.result
limits c =
    let t = still c in
    let below : c.loop-i.i < sum_width (bytes_of c.args.self.now.view.now) = omega (arith, t.0, c.min-width.ensures, c.variables.ensures.value, c.variables.ensures.high) in
    let first : get_or c.args.node.now.words c.loop-i.i 0 < 2 ^ 32 = search rules in
    let small : get_or c.loop-i.word-items c.loop-i.i 0 < 2 ^ 32 = omega (arith, t.1, first) in
    largest_few _ _ _ c.coefficient-coefficient.result.small small (λ z. c.requires c.loop-i.i below (sym t.1 ∙ z)) c.most.ensures

pub overflow_add-need : goal.overflow_add-need
overflow_add-need c =
    let l = (limits c).0 in
    let h = (limits c).1 in
    let r = MatchResult-at_ok _ _ _ c.unwrap-least.ensures c.least.ensures in
    search rules

pub loop-i-preserved : goal.loop-i-preserved
loop-i-preserved c =
    let bs = bytes_of c.args.self.now.view.now in
    let s = sum_at bs c.args.self.now.k in
    let width = sum_width bs in
    let n = c.args.node.now.words in
    let m = c.loop-i.word-items in
    let i = c.loop-i.i in
    let t = still (goal.at.loop-i-preserved c).After-most in
    let below : i < width = omega (arith, t.0, c.min-width.ensures, c.variables.ensures.value, c.variables.ensures.high) in
    let coefficient = c.coefficient-coefficient.ensures in
    let r = MatchResult-at_ok _ _ _ c.unwrap-least.ensures c.least.ensures in
    let few = limits (goal.at.loop-i-preserved c).After-most in
    let least = c.from.ensures ∙ to_z-of_z w32 c.unwrap-least.result (record { sfits = c.unwrap-least.type_inv }) in
    let most : c.most.result ≡ largest (s.coefficient i) (get_or m i 0) = c.most.ensures ∙ ap (λ (z : ℤ). largest z (get_or m i 0)) coefficient in
    let goal = to_z w64 (of_z w64 (to_z w64 (of_z w64 (to_z w64 (of_z w64 c.from.result) -ℤ to_z w64 (of_z w64 c.total.result))) +ℤ to_z w64 (of_z w64 c.most.result))) in
    let e : goal ≡ (s.least -ℤ totals s.coefficient n width) +ℤ largest (s.coefficient i) (get_or m i 0)
    = need_is c.from.result c.total.result c.most.result c.unwrap-least.result least r.2 c.total.ensures.low c.total.ensures.high few.0 few.1
    s.least (totals s.coefficient n width) (largest (s.coefficient i) (get_or m i 0)) r.0 c.total.ensures.value most in
    let Q : ℤ → Type 0 = (λ z. Reaching z (get_or m i 0) goal c.reaching-left.result) in
    one_more (reaches s width n) (take c.min-width.result n) m _ i c.loop-i.changed c.reaching-left.result c.change-changed.result refl
    (omega (arith, c.loop-i-test.true, c.loop-i.auto.word-items)) c.loop-i.invariant
    (reached s width n m i goal c.reaching-left.result below t.1 e (subst Q coefficient c.reaching-left.ensures))
    (c.change-changed.ensures.one (omega (arith, t.0, c.min-width.ensures, c.variables.ensures.high)))

pub returns : goal.returns
returns c =
    let bs = bytes_of c.args.self.now.view.now in
    let n = c.args.node.now.words in
    let w = c.min-width.result in
    let passes = reaches (sum_at bs c.args.self.now.k) (sum_width bs) n in
    let long : length n ≡ 32 = search rules in
    let P : ℕ → Type 0 = (λ k. Kept passes (take w n) c.loop-i.word-items k c.loop-i.changed) in
    let Q : ℕ → Type 0 = (λ k. Kept passes n (c.loop-i.word-items ++ drop w n) k c.loop-i.changed) in
    let wide : w ≡ sum_width bs = omega (arith, c.min-width.ensures, c.variables.ensures.value, c.variables.ensures.high) in
    subst Q wide
    (joined passes n _ w _ (omega (arith, c.min-width.ensures, c.variables.ensures.high, long))
    (subst P (omega (arith, c.loop-i-test.false, c.loop-i.auto.i-end, length-take w n, c.min-width.ensures, c.variables.ensures.high, long)) c.loop-i.invariant))
