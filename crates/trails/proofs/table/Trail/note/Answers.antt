use Rattle.std.proofs.Common.{◌+◌, ◌^◌, ◌<◌, sym, subst, ◌∙◌, arith, length-set}
use Rattle.words.specs.Words.{Only}
use Rattle.words.proofs.Bit.{is_only}
use Rattle.trails.specs.Entries.{older}
use Rattle.trails.proofs.Kept.{adds_top, notes, notes_none}
use Rattle.trails.proofs.table.Trail.note.Goals as goal

pub returns-then-has-clause-value : goal.returns-then-has-clause-value
returns-then-has-clause-value c =
    let t = c.args.self.now in
    notes_none t.entries t.marks.items c.in-Some.mark _ c.args.entry c.in-Some.ensures t.ok (sym c.if-has.ensures)

pub bounds-self-at : goal.bounds-self-at
bounds-self-at c =
    let t = c.args.self.now in
    let m = c.in-Some.mark in
    let lt : c.args.entry.word < 32 = omega arith in
    let low : m.words < 2 ^ 32 = omega arith in
    omega (arith, c.from.ensures, c.from-2.ensures, (adds_top t.entries t.marks.items m _ c.args.entry _ c.in-Some.ensures t.few t.long t.ok lt low (sym c.if-has.ensures) (is_only c.args.entry.word lt)).place)

pub invariant_of-self : goal.invariant_of-self
invariant_of-self c =
    let t = c.args.self.now in
    let m = c.in-Some.mark in
    let lt : c.args.entry.word < 32 = omega arith in
    let low : m.words < 2 ^ 32 = omega arith in
    let one = subst (λ w. Only w c.only.result) c.from-3.ensures (c.only.ensures.one (omega (arith, c.from-3.ensures))) in
    let a = adds_top t.entries t.marks.items m _ c.args.entry c.only.result c.in-Some.ensures t.few t.long t.ok lt low (sym c.if-has.ensures) one in
    let n = notes t.entries t.marks.items c.renew.new.marks.items m (older t.marks.items) c.args.entry c.put.new.place c.only.result (c.from.result + c.from-2.result) c.in-Some.ensures (c.renew.ensures.newest m _ c.in-Some.ensures) a c.put.ensures (omega (arith, c.from.ensures, c.from-2.ensures)) in
    record { long = length-set _ _ _ ∙ t.long; few = omega (arith, c.renew.ensures.length, t.few); ok = n.ok }

pub returns-clause-value : goal.returns-clause-value
returns-clause-value c =
    let t = c.args.self.now in
    let m = c.in-Some.mark in
    let lt : c.args.entry.word < 32 = omega arith in
    let low : m.words < 2 ^ 32 = omega arith in
    let one = subst (λ w. Only w c.only.result) c.from-3.ensures (c.only.ensures.one (omega (arith, c.from-3.ensures))) in
    let a = adds_top t.entries t.marks.items m _ c.args.entry c.only.result c.in-Some.ensures t.few t.long t.ok lt low (sym c.if-has.ensures) one in
    (notes t.entries t.marks.items c.renew.new.marks.items m (older t.marks.items) c.args.entry c.put.new.place c.only.result (c.from.result + c.from-2.result) c.in-Some.ensures (c.renew.ensures.newest m _ c.in-Some.ensures) a c.put.ensures (omega (arith, c.from.ensures, c.from-2.ensures))).value
