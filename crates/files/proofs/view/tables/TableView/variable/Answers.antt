use Rattle.std.proofs.Common.{◌<◌, ◌∙◌, arith}
use Rattle.std.proofs.lemmas.List.{get_or-take, length-take-le}
use Rattle.records.specs.Checks.{count}
use Rattle.records.proofs.Facts.{variables_below}
use Rattle.records.proofs.Readings.{variable_line}
use Rattle.records.proofs.Results.{looked_up}
use Rattle.files.proofs.view.tables.TableView.variable.Goals as goal

pub slice_bounds-get-end : goal.slice_bounds-get-end
slice_bounds-get-end c =
    let n = c.lines_of.ensures.size in
    let v = variables_below _ c.args.self.now.ok in
    omega (arith, c.args.self.now.counted, length-take-le c.args.self.now.variables c.lines_of.result.now (omega (arith, c.args.self.now.counted)))

pub returns : goal.returns
returns c =
    let n = c.lines_of.ensures.size in
    let v = variables_below _ c.args.self.now.ok in
    let s = length-take-le c.args.self.now.variables c.lines_of.result.now (omega (arith, c.args.self.now.counted)) in
    looked_up _ _ _ _ _ _ _ c.get.ensures.lookup c.ok_or.ensures.value
    (λ x l e.
    let b : c.args.i < count c.args.self.now.bytes.now = omega (arith, c.args.self.now.counted) in
    variable_line _ _ _ c.args.self.now.ok (omega (arith, c.args.self.now.counted))
    (e ∙ (get_or-take c.args.self.now.variables _ c.args.i _ (omega arith) ∙ c.lines_of.ensures.parts _ b)))
    (λ l. (c.absent.ensures.0, c.absent.ensures.1, omega (arith, c.args.self.now.counted)))
