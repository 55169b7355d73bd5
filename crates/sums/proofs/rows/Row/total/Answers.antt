use Rattle.std.proofs.Common.{◌≡◌, ℕ, ◌^◌, ◌<◌, get_or, ap, sym, ◌∙◌, arith, rules}
use Rattle.std.proofs.lemmas.Int.{ints}
use Rattle.words.proofs.Made.{first_word}
use Rattle.files.specs.Meaning.{bytes_of}
use Rattle.records.specs.Sums.{coefficient_at}
use Rattle.sum_networks.specs.Sums.{largest}
use Rattle.sum_networks.proofs.Cutting.{total_more}
use Rattle.sum_networks.proofs.Reached.{Few, largest_few}
use Rattle.sums.proofs.rows.Row.total.Goals as goal

product_is : (c : goal.After-most-sum) → c.most-sum.result ≡ largest c.coefficient.result.value (get_or c.args.node.now.words c.loop-i.i 0)
product_is c = let w = (first_word _ _ _ c.loop-i-test.true).1 in c.most-sum.ensures ∙ ap (λ (x : ℕ). largest c.coefficient.result.value x) w

limits : (c : goal.After-most-sum) → Few c.most-sum.result
limits c =
    let w = first_word _ _ _ c.loop-i-test.true in
    let small : get_or c.args.node.now.words c.loop-i.i 0 < 2 ^ 32 = search rules in
    largest_few _ _ _ c.coefficient.result.small small (c.requires c.loop-i.i (omega (arith, w.0, c.variables.ensures.value))) (product_is c)

pub overflow_add-sum : goal.overflow_add-sum
overflow_add-sum c = let l = (limits c).0 in let h = (limits c).1 in search rules

pub loop-i-preserved : goal.loop-i-preserved
loop-i-preserved c =
    let l = (limits c).0 in
    let h = (limits c).1 in
    let m = total_more (coefficient_at (bytes_of c.args.self.now.view.now) c.args.self.now.k) c.args.node.now.words c.loop-i.i c.loop-i.sum c.most-sum.result _
    (sym c.loop-i.sum-is ∙ c.loop-i.invariant.0) (product_is c) c.coefficient.ensures in
    (omega (arith, ints) ∙ m, omega (arith, ints), omega (arith, ints))
