use Rattle.std.proofs.Common.{◌≡◌, ℕ, ◌^◌, ◌<◌, false, List, Some, length, get_or, sym, ap, ◌∙◌, arith, rules}
use Rattle.std.proofs.lemmas.Bool.{cond-false}
use Rattle.std.proofs.lemmas.List.{length-take}
use Rattle.nodes.specs.Choosing.{empty_below}
use Rattle.nodes.proofs.Emptiness.{none_filled}
use Rattle.words.proofs.Made.{first_word}
use Rattle.files.specs.Meaning.{bytes_of}
use Rattle.records.specs.Tables.{variable_count}
use Rattle.table_networks.proofs.Prices.{summed_none, summed_more, summed_all}
use Rattle.tables.proofs.problem.calls.TablesProblem.bound.Goals as goal

pub loop-i-init : goal.loop-i-init
loop-i-init c = summed_none _ _ _

pub least_costs-s-requires : goal.least_costs-s-requires
least_costs-s-requires c =
    let w = first_word _ _ _ c.loop-i-test.true in
    (omega (arith, c.variables-width.ensures.value, w.0), λ z. none_filled c.variables-width.result c.args.node.now.words (sym c.has_empty.ensures ∙ c.if-has_empty.false) c.loop-i.i w.0 (sym w.1 ∙ z))

pub loop-i-preserved : goal.loop-i-preserved
loop-i-preserved c =
    let w = (first_word _ _ _ c.loop-i-test.true).1 in
    let small : get_or c.args.node.now.words c.loop-i.i 0 < 2 ^ 32 = search rules in
    let ls : c.least_costs-s.result.0 < 65536 = search rules in
    let lm : c.least_costs-s.result.1 < 65536 = search rules in
    let s = rw w at c.least_costs-s.ensures.stops in
    let m = rw w at c.least_costs-s.ensures.minutes in
    rw (c.from-stops.ensures, c.from-minutes.ensures) (summed_more _ _ _ _ _ _ _ _ c.loop-i.invariant small s m ls lm)

pub returns : goal.returns
returns c =
    let n : List ℕ = c.args.node.now.words in
    let long : length n ≡ 32 = search rules in
    let e : empty_below (variable_count (bytes_of c.args.self.now.view)) n ≡ false =
    ap (λ (w : ℕ). empty_below w n) (sym c.variables-width.ensures.value) ∙ sym c.has_empty.ensures ∙ c.if-has_empty.false in
    let all : c.loop-i.i ≡ variable_count (bytes_of c.args.self.now.view) = omega (arith, length-take {A = ℕ} c.variables-width.result n, c.variables-width.ensures.value, c.variables-width.ensures.high, c.loop-i.auto.i-end, c.loop-i-test.false) in
    ap Some (summed_all _ _ _ _ _ _ _ all c.loop-i.invariant) ∙ sym (cond-false _ _ _ e)
