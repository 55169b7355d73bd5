use Rattle.std.proofs.Common.{refl, arith}
use Rattle.trailing.proofs.Moves.{wide_now, forgets}
use Rattle.trailing.proofs.changes.ChangesKeeper.forget.Goals as goal

pub returns : goal.returns
returns g c newest older a h =
    let b = c.args._below.now in
    let m = g.S.Space.meaning b in
    let w = g.met.S.Space.lawful b in
    let f = forgets g.S.Space.named m _ _ _ _ newest older a h (omega (arith, wide_now m w, w.high)) c.forget.ensures in
    (refl {a = m}, f.0, f.1, refl, (c.forget.ensures, refl {a = c.args.self.now.seen}))
