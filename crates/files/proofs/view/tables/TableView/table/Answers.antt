use Rattle.std.proofs.Common.{◌+◌, ◌<◌, ◌∙◌, arith}
use Rattle.records.specs.Checks.{count}
use Rattle.records.proofs.Facts.{variables_below}
use Rattle.records.proofs.Readings.{table_line}
use Rattle.records.proofs.Results.{looked_up, rest_length, rest_at}
use Rattle.files.proofs.view.tables.TableView.table.Goals as goal

pub slice_bounds-get-count : goal.slice_bounds-get-count
slice_bounds-get-count c =
    let n = c.lines_of.ensures.size in omega (arith, c.args.self.now.counted, variables_below _ c.args.self.now.ok)

pub slice_bounds-get-start : goal.slice_bounds-get-start
slice_bounds-get-start c =
    let n = c.lines_of.ensures.size in omega (arith, c.args.self.now.counted, variables_below _ c.args.self.now.ok)

pub returns : goal.returns
returns c =
    let n = c.lines_of.ensures.size in
    let s = rest_length c.lines_of.result.now c.args.self.now.variables in
    let v = c.args.self.now.counted in
    looked_up _ _ _ _ _ _ _ c.get.ensures.lookup c.ok_or.ensures.value
    (λ x l e.
    let b : c.args.self.now.variables + c.args.k < count c.args.self.now.bytes.now = omega arith in
    table_line _ _ _ _ c.args.self.now.ok v (omega arith)
    (e ∙ (rest_at _ _ _ l ∙ c.lines_of.ensures.parts _ b)))
    (λ l. (c.absent.ensures.0, c.absent.ensures.1, omega arith))
