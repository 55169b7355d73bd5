use Rattle.std.proofs.Common.{◌≡◌, ◌<◌, sym, inr, arith, rules, below_more}
use Rattle.std.proofs.lemmas.Result.{err_from_is_err_and}
use Rattle.records.specs.Checks.{count, LawfulTable}
use Rattle.records.proofs.Facts.{variables_some, variables_below}
use Rattle.records.proofs.Results.{same_ok, made_err, at_record}
use Rattle.records.proofs.Steps.{variables_none, counted, all_counted, table_coded}
use Rattle.records.proofs.Unique.{number_over}
use Rattle.table_checks.proofs.check.Goals as goal

pub loop-k-init : goal.loop-k-init
loop-k-init c = (sym (variables_none _), omega arith, λ j h. omega arith)

pub returns-in_err-variables : goal.returns-in_err-variables
returns-in_err-variables c =
    let p = err_from_is_err_and c.from_residual-in_err-variables.result c.from_residual-in_err-variables.ensures.1 in
    let e = made_err _ _ _ c.check_line.result c.map_err.result c.in_err-variables.field-0.0 c.check_line.ensures c.map_err.ensures.cases c.in_err-variables.was in
    let w = c.in_ok-whole_count.ensures in
    let n = c.lines_of-line-items.ensures.size in
    let l : c.loop-k.k-counter < count c.args.bytes.now = omega arith in
    let t = c.lines_of-line-items.ensures.parts c.loop-k.k-counter l in
    let s = e.2 in
    let q : c.in_err-variables.field-0.0 ≡ at_record e.0 c.loop-k.k-counter = search rules in
    rw (p.1, p.2, q) (inr record {
      whole = w.1;
      inside = l;
      before = c.loop-k.invariant.2;
      here = table_coded _ _ _ _ _ t c.loop-k.invariant.0 e.1;
      fails = number_over _;
    })

pub loop-k-preserved : goal.loop-k-preserved
loop-k-preserved c =
    let w = c.in_ok-whole_count.ensures in
    let n = c.lines_of-line-items.ensures.size in
    let l : c.loop-k.k-counter < count c.args.bytes.now = omega arith in
    let t = c.lines_of-line-items.ensures.parts c.loop-k.k-counter l in
    let h = same_ok _ _ _ c.check_line.result c.map_err.result c.in_ok-variables.variables c.check_line.ensures c.map_err.ensures.cases c.in_ok-variables.was in (
      counted _ _ _ _ _ t c.loop-k.invariant.0 h.1,
      h.2,
      below_more _ _ c.loop-k.invariant.2 (table_coded _ _ _ _ _ t c.loop-k.invariant.0 h.0),
    )

pub returns : goal.returns
returns c =
    let w = c.in_ok-whole_count.ensures in
    let n = c.lines_of-line-items.ensures.size in
    let t = c.loop-k-test.false in
    let h : LawfulTable c.args.bytes.now = (w.1, λ k l. c.loop-k.invariant.2 k (omega arith)) in
    let v = all_counted _ _ _ c.loop-k.invariant.0 (omega arith) in
    (h, v, omega (arith, variables_some _ h), omega arith, omega (arith, variables_below _ h))
