use Rattle.std.proofs.Common.{rules}
use Rattle.trails.proofs.Kept.{ends}
use Rattle.trails.proofs.table.Trail.end.Goals as goal

pub map_or-requires : goal.map_or-requires
map_or-requires c x e =
    let t = c.args.self.now in
    let s = ends t.entries t.marks.items x _ (rw e at c.newest.ensures) t.few t.ok in
    search (rules, s)
