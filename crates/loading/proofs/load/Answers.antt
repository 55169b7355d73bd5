use Rattle.std.proofs.Common.{◌≡◌, ◌<◌, arith, rules}
use Rattle.loading.proofs.Words.{set_next, all_set}
use Rattle.loading.proofs.load.Goals as goal

pub loop-i-preserved : goal.loop-i-preserved
loop-i-preserved g c =
    let m = g.S.Space.meaning c.args.space.now in
    let i = c.loop-i.invariant in
    let here : c.loop-i.i < m.width = omega (arith, c.width-i-end.ensures.value) in
    set_next m _ _ c.args.node.words c.loop-i.i (g.met.S.Space.lawful c.loop-i.space) i.0 here (search rules) i.1 c.set.ensures.1.0

pub returns : goal.returns
returns g c =
    let m = g.S.Space.meaning c.args.space.now in
    let i = c.loop-i.invariant in
    let at : c.loop-i.i ≡ m.width = omega (arith, c.width-i-end.ensures.value) in
    all_set m _ g.S.Space.named c.args.node.words c.loop-i.i (g.met.S.Space.lawful c.loop-i.space) (g.met.S.Loadable.only c.loop-i.space) i.0 at i.1
