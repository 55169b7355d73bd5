use Rattle.std.proofs.Common.{refl}
use Rattle.words.specs.Words.{bit}
use Rattle.trails.proofs.table.calls.has.Goals as goal

pub returns : goal.returns
unfolding bit
returns c = refl
