use Rattle.std.proofs.Common.{rules}
use Rattle.nodes.proofs.Counts.{reach_count}
use Rattle.nodes.proofs.node.Node.reach.Goals as goal

pub returns : goal.returns
returns c = let e = reach_count c.args.width c.args.self.now.words in search (rules, e)
