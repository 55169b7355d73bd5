use Rattle.std.proofs.Common.{refl}
use Rattle.trailing.proofs.Moves.{holds}
use Rattle.trailing.proofs.changes.ChangesKeeper.hold.Goals as goal

pub returns : goal.returns
returns g c a room =
    let b = c.args._below.now in
    let m = g.S.Space.meaning b in
    let h = holds g.S.Space.named m _ _ _ _ a (g.met.S.Space.lawful b) (g.met.S.Loadable.only b) room c.mark.ensures in
    (refl {a = m}, h.0, h.1, refl, (c.mark.ensures, refl {a = c.args.self.now.seen}))
