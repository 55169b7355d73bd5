use Rattle.std.proofs.Common.{arith}
use Rattle.records.proofs.Facts.{variables_below}
use Rattle.files.proofs.view.tables.TableView.tables.Goals as goal

pub overflow_sub-result : goal.overflow_sub-result
overflow_sub-result c = let v = c.args.self.now.counted in omega (arith, variables_below _ c.args.self.now.ok)
