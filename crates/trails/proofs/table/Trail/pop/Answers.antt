use Rattle.std.proofs.Common.{◌+◌, ◌-◌, ◌^◌, ◌<◌, subst, arith}
use Rattle.words.specs.Words.{Only}
use Rattle.trails.proofs.Kept.{takes_top, ends, pops}
use Rattle.trails.proofs.table.Trail.pop.Goals as goal

pub bounds-self-from : goal.bounds-self-from
bounds-self-from c =
    let t = c.args.self.now in
    omega (arith, c.from.ensures, c.from-2.ensures, ends t.entries t.marks.items c.in_ok-mark.mark _ c.in_ok-mark.ensures t.few t.ok)

pub invariant_of-self : goal.invariant_of-self
invariant_of-self c =
    let t = c.args.self.now in
    let m = c.in_ok-mark.mark in
    let low : m.words < 2 ^ 32 = omega arith in
    let k = takes_top t.entries t.marks.items m _ (c.from.result + c.from-2.result - 1) c.in_ok-mark.ensures t.ok (omega arith) low (omega (arith, c.from.ensures, c.from-2.ensures)) in
    let one = subst (λ w. Only w c.only.result) c.from-3.ensures (c.only.ensures.one (omega (arith, k.small, c.from-3.ensures))) in
    let p = pops t.entries t.marks.items c.renew.new.marks.items m _ _ c.only.result c.in_ok-mark.ensures (c.renew.ensures.newest m _ c.in_ok-mark.ensures) k one in
    record { long = t.long; few = omega (arith, c.renew.ensures.length, t.few); ok = p.2 }

pub returns-clause-small : goal.returns-clause-small
returns-clause-small c =
    let t = c.args.self.now in
    let m = c.in_ok-mark.mark in
    let low : m.words < 2 ^ 32 = omega arith in
    (takes_top t.entries t.marks.items m _ (c.from.result + c.from-2.result - 1) c.in_ok-mark.ensures t.ok (omega arith) low (omega (arith, c.from.ensures, c.from-2.ensures))).small

pub returns-clause-rest : goal.returns-clause-rest
returns-clause-rest c =
    let t = c.args.self.now in
    let m = c.in_ok-mark.mark in
    let low : m.words < 2 ^ 32 = omega arith in
    let k = takes_top t.entries t.marks.items m _ (c.from.result + c.from-2.result - 1) c.in_ok-mark.ensures t.ok (omega arith) low (omega (arith, c.from.ensures, c.from-2.ensures)) in
    let one = subst (λ w. Only w c.only.result) c.from-3.ensures (c.only.ensures.one (omega (arith, k.small, c.from-3.ensures))) in
    (pops t.entries t.marks.items c.renew.new.marks.items m _ _ c.only.result c.in_ok-mark.ensures (c.renew.ensures.newest m _ c.in_ok-mark.ensures) k one).1
