use Rattle.std.proofs.Common.{◌^◌, ◌≤◌, length, arith, rules}
use Rattle.std.proofs.lemmas.Iterator.{YieldsList-from_slice}
use Rattle.std.proofs.lemmas.Iterator.Adapters.{fits_from_length, at_most_from_yields_List}
use Rattle.nodes.proofs.Counts.{rest_sum}
use Rattle.nodes.proofs.node.Node.rest.Goals as goal

pub map_or-requires : goal.map_or-requires
map_or-requires c x e =
    let q = rw e at c.filled.ensures in
    let few : length x.now ≤ 32 = search rules in
    let s = rest_sum c.args.width c.args.self.now.words x.now (search rules) q.0 q.1 q.2 in (
      λ ls a k iter map ks. (search rules, (search rules, fits_from_length _ _ 32 (2 ^ 32) (at_most_from_yields_List (YieldsList-from_slice x.now (search rules)) few) map.ensures.1.0 (omega arith) (λ y r g h. search rules))),
      search (rules, few, s),
      search (rules, few, s),
    )

pub returns : goal.returns
returns c = let e = rest_sum c.args.width c.args.self.now.words in search (rules, e)
