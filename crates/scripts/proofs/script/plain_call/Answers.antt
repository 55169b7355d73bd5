use Rattle.std.proofs.Common.{rules}
use Rattle.std.proofs.lemmas.Slice.Eq.{text_from_reads}
use Rattle.scripts.proofs.script.plain_call.Goals as goal

pub returns-in-status : goal.returns-in-status
returns-in-status c = search (rules, text_from_reads)

pub returns-in-forget : goal.returns-in-forget
returns-in-forget c = search (rules, text_from_reads)

pub returns-in-restore : goal.returns-in-restore
returns-in-restore c = search (rules, text_from_reads)

pub returns-in-capacity : goal.returns-in-capacity
returns-in-capacity c = search (rules, text_from_reads)

pub returns-in-allowance : goal.returns-in-allowance
returns-in-allowance c = search (rules, text_from_reads)
