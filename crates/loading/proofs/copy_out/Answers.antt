use Rattle.std.proofs.Common.{◌≡◌, ◌<◌, ◌≤◌, length, take, ap, ◌∙◌, arith, length-set, take_all}
use Rattle.space.specs.Meaning.{words_now}
use Rattle.loading.proofs.Words.{wide_now, copy_next}
use Rattle.loading.proofs.copy_out.Goals as goal

pub loop-i-preserved : goal.loop-i-preserved
loop-i-preserved g c =
    let m = g.S.Space.meaning c.args.space.now in
    let here : c.loop-i.i < m.width = omega (arith, c.width-i-end.ensures.value) in
    let room : c.loop-i.i < length c.loop-i.words = omega (arith, c.loop-i.invariant.0, c.width-i-end.ensures.high) in (
      length-set c.loop-i.words c.loop-i.i c.in-Ok.word ∙ c.loop-i.invariant.0,
      copy_next m c.loop-i.words c.loop-i.i c.in-Ok.word (g.met.S.Space.lawful c.args.space.now) here room c.loop-i.invariant.1 c.in-Ok.ensures,
    )

pub returns : goal.returns
returns g c =
    let m = g.S.Space.meaning c.args.space.now in
    let at : m.width ≡ c.loop-i.i = omega (arith, c.width-i-end.ensures.value) in
    let all : length (words_now m) ≤ c.loop-i.i = omega (arith, at, wide_now m (g.met.S.Space.lawful c.args.space.now)) in
    ap (λ n. take n c.loop-i.words) at ∙ c.loop-i.invariant.1 ∙ take_all _ _ all
