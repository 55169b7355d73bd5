use Rattle.std.proofs.Common.{rules}
use Rattle.answers.proofs.Lines.{written_with, written_without}
use Rattle.answers.proofs.text.SurveyDisplay.fmt.Goals as goal

pub returns-in_ok-writeln-3-clause-writes : goal.returns-in_ok-writeln-3-clause-writes
returns-in_ok-writeln-3-clause-writes g c = search (rules, written_with)

pub returns-in_default-clause-writes : goal.returns-in_default-clause-writes
returns-in_default-clause-writes g c = search (rules, written_without)
