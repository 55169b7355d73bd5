use Rattle.records.proofs.Facts.{some_records}
use Rattle.records.proofs.Readings.{objective_line}
use Rattle.files.proofs.view.sums.SumView.first.Goals as goal

pub returns : goal.returns
returns c = objective_line _ _ c.args.self.now.ok (c.lines_of.ensures.parts 0 (some_records _ c.args.self.now.ok.0))
