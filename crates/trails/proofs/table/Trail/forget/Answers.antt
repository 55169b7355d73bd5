use Rattle.std.proofs.Common.{◌≡◌, ℕ, ◌+◌, List, ◌∷◌, get_or, reverse, sym, refl, ap, ◌∙◌, add-one, arith}
use Rattle.trails.specs.declared.entry.Entry.{Entry}
use Rattle.trails.specs.declared.entry.Mark.{Mark}
use Rattle.trails.specs.Entries.{noted, noted_all, forgotten, none, back, parts}
use Rattle.trails.specs.Segments.{segments}
use Rattle.trails.proofs.Kept.{fine_top, newest_more, ends}
use Rattle.trails.proofs.table.Trail.forget.Goals as goal

pub loop-i-init : goal.loop-i-init
loop-i-init c =
    let t = c.args.self.now in
    let was : reverse t.marks.items ≡ c.in-Some.mark ∷ reverse c.pop.new.self.items = ap reverse c.in-Some.ensures.items ∙ newest_more c.pop.new.self.items c.in-Some.mark in
    let f = fine_top t.entries t.marks.items c.in-Some.mark _ was t.ok in
    (omega (arith, f.start), (λ j h. refl), refl)

pub bounds-self-from : goal.bounds-self-from
bounds-self-from c =
    let t = c.args.self.now in
    let was : reverse t.marks.items ≡ c.in-Some.mark ∷ reverse c.pop.new.self.items = ap reverse c.in-Some.ensures.items ∙ newest_more c.pop.new.self.items c.in-Some.mark in
    omega (arith, c.from.ensures, c.from-in-loop-i.ensures, ends t.entries t.marks.items c.in-Some.mark _ was t.few t.ok)

pub loop-i-preserved : goal.loop-i-preserved
loop-i-preserved c =
    let t = c.args.self.now in
    let m = c.in-Some.mark in
    let left = parts t.entries (reverse c.pop.new.self.items) in
    let i = c.loop-i.invariant in
    let n = c.note.ensures in
    let at : c.from.result + c.from-in-loop-i.result ≡ m.start + c.loop-i.i = omega (arith, c.from.ensures, c.from-in-loop-i.ensures) in (
      omega (arith, i.0, n.end),
      λ j h. n.rest j (omega (arith, i.0)) ∙ i.1 j (omega arith),
      n.value ∙ ap (λ (k : ℕ). noted (segments c.loop-i.self) (get_or c.loop-i.self.entries k none)) at
          ∙ ap (λ (ss : List (List Entry)). noted ss (get_or c.loop-i.self.entries (m.start + c.loop-i.i) none)) i.2
          ∙ ap (noted (noted_all left (back t.entries m.start c.loop-i.i))) (i.1 (m.start + c.loop-i.i) (omega arith))
          ∙ ap (λ (k : ℕ). noted_all left (back t.entries m.start k)) (sym (add-one c.loop-i.i)),
    )

pub returns : goal.returns
returns c =
    let t = c.args.self.now in
    let m = c.in-Some.mark in
    let was : reverse t.marks.items ≡ m ∷ reverse c.pop.new.self.items = ap reverse c.in-Some.ensures.items ∙ newest_more c.pop.new.self.items m in
    let all : c.loop-i.i ≡ m.size = omega arith in
    c.loop-i.invariant.2
    ∙ ap (λ (k : ℕ). noted_all (parts t.entries (reverse c.pop.new.self.items)) (back t.entries m.start k)) all
    ∙ ap (λ (l : List Mark). forgotten (parts t.entries l)) (sym was)
