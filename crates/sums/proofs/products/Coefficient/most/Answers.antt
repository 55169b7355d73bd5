use Rattle.sum_networks.proofs.Ends.{low_is, high_is}
use Rattle.sum_networks.proofs.Reached.{largest_at}
use Rattle.sums.proofs.products.Coefficient.most.Goals as goal

pub returns-then-self-lt0 : goal.returns-then-self-lt0
returns-then-self-lt0 c =
    let e = c.lowest.ensures.least c.requires in
    largest_at _ _ _ _ _ c.args.self.small (record { sfits = c.times.type_inv }) c.times.ensures c.if-self-lt0.true (low_is _ _ e.there e.least)

pub returns-else-self-lt0 : goal.returns-else-self-lt0
returns-else-self-lt0 c =
    let e = c.highest.ensures.most c.requires in
    largest_at _ _ _ _ _ c.args.self.small (record { sfits = c.times-else-self-lt0.type_inv }) c.times-else-self-lt0.ensures c.if-self-lt0.false (high_is _ _ e.there e.most)
