use Rattle.std.proofs.Common.{rules}
use Rattle.nodes.proofs.Emptiness.{any_empty, past_empty}
use Rattle.nodes.proofs.node.Node.filled.Goals as goal

pub returns : goal.returns
returns c = let e = any_empty c.args.width c.args.self.now.words in search (rules, past_empty, e)
