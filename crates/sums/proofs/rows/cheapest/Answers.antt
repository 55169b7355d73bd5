use Rattle.std.proofs.Common.{◌≡◌, ℕ, ◌^◌, ◌<◌, get_or, ap, sym, refl, ◌∙◌, arith, rules}
use Rattle.std.proofs.lemmas.Int.{ints}
use Rattle.words.proofs.Made.{first_word}
use Rattle.files.specs.Meaning.{bytes_of}
use Rattle.records.specs.Sums.{objective_at}
use Rattle.sum_networks.specs.Sums.{least_total, smallest_product}
use Rattle.sum_networks.proofs.Cutting.{least_more}
use Rattle.sum_networks.proofs.Reached.{Few, smallest_few}
use Rattle.sums.proofs.rows.cheapest.Goals as goal

pub loop-i-init : goal.loop-i-init
unfolding least_total
loop-i-init c = (refl, omega (arith, ints), omega (arith, ints))

product_is : (c : goal.After-least-sum) → c.least-sum.result ≡ smallest_product c.cost.result.value (get_or c.args.node.now.words c.loop-i.i 0)
product_is c = let w = (first_word _ _ _ c.loop-i-test.true).1 in c.least-sum.ensures ∙ ap (λ (x : ℕ). smallest_product c.cost.result.value x) w

limits : (c : goal.After-least-sum) → Few c.least-sum.result
limits c =
    let w = first_word _ _ _ c.loop-i-test.true in
    let small : get_or c.args.node.now.words c.loop-i.i 0 < 2 ^ 32 = search rules in
    smallest_few _ _ _ c.cost.result.small small (c.requires c.loop-i.i (omega (arith, w.0, c.variables.ensures.value))) (product_is c)

pub overflow_add-sum : goal.overflow_add-sum
overflow_add-sum c = let l = (limits c).0 in let h = (limits c).1 in search rules

pub loop-i-preserved : goal.loop-i-preserved
loop-i-preserved c =
    let l = (limits c).0 in
    let h = (limits c).1 in
    let m = least_more (objective_at (bytes_of c.args.view.now)) c.args.node.now.words c.loop-i.i c.loop-i.sum c.least-sum.result _
    (sym c.loop-i.sum-is ∙ c.loop-i.invariant.0) (product_is c) c.cost.ensures in
    (omega (arith, ints) ∙ m, omega (arith, ints), omega (arith, ints))
