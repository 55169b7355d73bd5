use Rattle.std.proofs.Common.{w32, to_z, of_z}
use Rattle.sum_networks.proofs.Ends.{low_is, high_is}
use Rattle.sum_networks.proofs.Reached.{smallest_at, not_below, is_below}
use Rattle.sums.proofs.products.Coefficient.least.Goals as goal

pub returns-then-self-ge0 : goal.returns-then-self-ge0
returns-then-self-ge0 c =
    let e = c.lowest.ensures.least c.requires in
    smallest_at _ _ _ _ _ c.args.self.small (record { sfits = c.times.type_inv }) c.times.ensures (not_below (to_z w32 (of_z w32 c.args.self.value)) c.if-self-ge0.true) (low_is _ _ e.there e.least)

pub returns-else-self-ge0 : goal.returns-else-self-ge0
returns-else-self-ge0 c =
    let e = c.highest.ensures.most c.requires in
    smallest_at _ _ _ _ _ c.args.self.small (record { sfits = c.times-else-self-ge0.type_inv }) c.times-else-self-ge0.ensures (is_below (to_z w32 (of_z w32 c.args.self.value)) c.if-self-ge0.false) (high_is _ _ e.there e.most)
