use Rattle.std.proofs.Common.{◌≡◌, ◌+◌, ◌<◌, ◌∙◌, ap, arith}
use Rattle.records.specs.Checks.{line, count}
use Rattle.records.proofs.Readings.{sum_line}
use Rattle.records.proofs.Results.{looked_up, rest_length, rest_at}
use Rattle.files.proofs.view.sums.SumView.sum.Goals as goal

pub returns : goal.returns
returns c =
    let s = rest_length c.lines_of.result.now 1 in
    let n = c.lines_of.ensures.size in
    looked_up _ _ _ _ _ _ _ c.get.ensures.lookup c.ok_or.ensures.value
    (λ x l e.
    let b : 1 + c.args.k < count c.args.self.now.bytes.now = omega arith in
    let t : 1 + c.args.k ≡ c.args.k + 1 = omega arith in
    sum_line _ _ _ c.args.self.now.ok (omega arith)
    (e ∙ (rest_at _ 1 _ l ∙ (c.lines_of.ensures.parts _ b ∙ ap (line c.args.self.now.bytes.now) t))))
    (λ l. (c.absent.ensures.0, c.absent.ensures.1, omega arith))
