use Rattle.std.proofs.Common.{rules}
use Rattle.nodes.proofs.Counts.{ones_most}
use Rattle.nodes.proofs.node.size.Goals as goal

pub returns-clause-most : goal.returns-clause-most
returns-clause-most c = search (rules, ones_most)
