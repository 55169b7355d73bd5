use Rattle.std.proofs.Common.{refl}
use Rattle.table_networks.proofs.Prices.{least_law}
use Rattle.tables.proofs.problem.Tables.new.Goals as goal

pub returns : goal.returns
returns c = record { file = refl; least = least_law }
