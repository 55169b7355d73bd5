use Rattle.std.proofs.Common.{◌∙◌, ◌&&◌, true, nat_eq, rules}
use borrow.Author.Tests.{tests}
use Rattle.std.proofs.lemmas.Iterator.{YieldsList-from_slice}
use Rattle.std.proofs.lemmas.Iterator.Consumers.{fold_from_yields_List}
use Rattle.records.proofs.Steps.{zeros_over}
use Rattle.records.proofs.checks.block_zero.Goals as goal

pub returns : goal.returns
returns c =
    fold_from_yields_List _ (λ z x. z && nat_eq x 0) true c.fold.result c.fold.ensures.ran (YieldsList-from_slice c.args.block.now cc) (λ a x b q k. search (rules, tests))
    ∙ zeros_over true c.args.block.now
