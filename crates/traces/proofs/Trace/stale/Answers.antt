use Rattle.std.proofs.Common.{rules}
use Rattle.traces.proofs.Newest.{last_first, stale_order}
use Rattle.traces.proofs.Trace.stale.Goals as goal

pub returns : goal.returns
returns c = search (rules, last_first, stale_order)
