use Rattle.std.proofs.Common.{◌≡◌, ◌<◌, ◌∙◌, inr, arith, rules, below_more}
use Rattle.std.proofs.lemmas.Result.{err_from_is_err_and}
use Rattle.records.specs.Checks.{count, LawfulSum}
use Rattle.records.proofs.Facts.{some_records, width_some, width_few, few_sum_records}
use Rattle.records.proofs.Results.{same_ok, made_err, at_record}
use Rattle.records.proofs.Steps.{sum_coded, width_read}
use Rattle.records.proofs.Unique.{number_over}
use Rattle.sum_checks.proofs.check.Goals as goal

pub returns-in_err-map_err : goal.returns-in_err-map_err
returns-in_err-map_err c =
    let w = c.in_ok-whole_count.ensures in
    let f = some_records c.args.bytes.now w.1 in
    let z = c.lines_of-lines.ensures.size in
    let l : c.loop-k.k-counter < count c.args.bytes.now = omega arith in
    let t = c.lines_of-lines.ensures.parts c.loop-k.k-counter l in
    let n = width_read _ _ (c.lines_of-lines.ensures.parts 0 f) in
    let p = err_from_is_err_and c.from_residual-in_err-map_err.result c.from_residual-in_err-map_err.ensures.1 in
    let e = made_err _ _ _ c.check_line.result c.map_err.result c.in_err-map_err.field-0.0 c.check_line.ensures c.map_err.ensures.cases c.in_err-map_err.was in
    let s = e.2 in
    let q : c.in_err-map_err.field-0.0 ≡ at_record e.0 c.loop-k.k-counter = search rules in
    rw (p.1, p.2, q) (inr record {
      whole = w.1;
      inside = l;
      before = c.loop-k.invariant;
      here = sum_coded _ _ _ _ _ t n e.1;
      fails = number_over _;
    })

pub loop-k-preserved : goal.loop-k-preserved
loop-k-preserved c =
    let w = c.in_ok-whole_count.ensures in
    let f = some_records c.args.bytes.now w.1 in
    let z = c.lines_of-lines.ensures.size in
    let l : c.loop-k.k-counter < count c.args.bytes.now = omega arith in
    let t = c.lines_of-lines.ensures.parts c.loop-k.k-counter l in
    let n = width_read _ _ (c.lines_of-lines.ensures.parts 0 f) in
    let h = same_ok _ _ _ c.check_line.result c.map_err.result c.in_ok-map_err.field-0 c.check_line.ensures c.map_err.ensures.cases c.in_ok-map_err.was in
    below_more _ _ c.loop-k.invariant (sum_coded _ _ _ _ _ t n h)

pub returns : goal.returns
returns c =
    let w = c.in_ok-whole_count.ensures in
    let f = some_records c.args.bytes.now w.1 in
    let z = c.lines_of-lines.ensures.size in
    let t = c.loop-k-test.false in
    let h : LawfulSum c.args.bytes.now = (w.1, λ k l. c.loop-k.invariant k (omega arith)) in
    let r = c.from.ensures in
    let n = width_read _ _ (c.lines_of-lines.ensures.parts 0 f) in
    (h, r ∙ n, omega (arith, width_some _ h), omega (arith, width_few _ h), few_sum_records _ h)
