use Rattle.std.proofs.Common.{arith}
use Rattle.layers.proofs.Held.{newest, restores}
use Rattle.layers.proofs.LayerSpace.restore.Goals as goal

pub invariant_of-self : goal.invariant_of-self
invariant_of-self g c =
    let l = c.args.self.now in
    let m = g.S.Space.meaning l.below in
    let h = newest (g.K.Keeper.held _ _ g.S.Space.named l.keeper m) (omega (arith, c.if-count-eq0.false, c.count.ensures m l.agrees)) in
    record { agrees = (c.go_back.ensures h.0 h.1 l.agrees h.2).1 }

pub returns : goal.returns
returns g c =
    let l = c.args.self.now in
    let m = g.S.Space.meaning l.below in
    let h = newest (g.K.Keeper.held _ _ g.S.Space.named l.keeper m) (omega (arith, c.if-count-eq0.false, c.count.ensures m l.agrees)) in
    let k = c.go_back.ensures h.0 h.1 l.agrees h.2 in
    record { means = restores m _ _ _ _ _ h.0 h.1 h.2 k.0 k.2 k.3; goes_back = k.4 }
