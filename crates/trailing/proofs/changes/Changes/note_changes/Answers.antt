use Rattle.std.proofs.Common.{◌≡◌, ℕ, ◌+◌, List, ◌++◌, length, get_or, take, drop, sym, ap, ◌∙◌, arith, length-take-le, get_or-take, rules}
use Rattle.nodes.specs.declared.node.Node.{Node}
use Rattle.trails.specs.declared.entry.Entry.{Entry}
use Rattle.trails.specs.Entries.{before}
use Rattle.trails.specs.Segments.{segments}
use Rattle.trailing.specs.declared.changes.Changes.{Changes}
use Rattle.trailing.proofs.Mixed.{same_word, noted_word, mixed_all}
use Rattle.trailing.proofs.changes.Changes.note_changes.Goals.{then-new-from, else-new-from}
use Rattle.trailing.proofs.changes.Changes.note_changes.Goals as goal

pub loop-i-preserved : goal.loop-i-preserved
loop-i-preserved c =
    let i = c.loop-i.i in
    let seen = c.args.self.now.seen.words in
    let new = take c.args.width c.args.new.words in
    let old = take c.args.width seen in
    let n : length new ≡ c.args.width = length-take-le c.args.width c.args.new.words (search rules) in
    let o : length old ≡ c.args.width = length-take-le c.args.width seen (omega (arith, c.args.self.now.bounds.0)) in
    let at : c.from.result ≡ i = c.from.ensures in
    let at_new : get_or new i 0 ≡ get_or c.args.new.words c.from-in-loop-i.result 0 = get_or-take c.args.width c.args.new.words i 0 (omega arith) ∙ ap (λ (j : ℕ). get_or c.args.new.words j 0) (sym c.from-in-loop-i.ensures) in
    let at_old : get_or c.loop-i.self.seen.words c.from.result 0 ≡ get_or old i 0 = ap (λ (x : Node). get_or x.words c.from.result 0) c.loop-i.invariant.1 ∙ ap (λ (j : ℕ). get_or seen j 0) at ∙ sym (get_or-take c.args.width seen i 0 (omega arith)) in
    let ss = segments c.loop-i.self.trail in
    elim c.if-new-from.branch [
      | then-new-from w ↦ (
        ap (λ (x : Changes). before (segments x.trail) (take (i + 1) new ++ drop (i + 1) old)) w.self-is
            ∙ ap (λ (x : List (List Entry)). before x (take (i + 1) new ++ drop (i + 1) old)) w.note.ensures.value
            ∙ noted_word ss new old i (get_or c.loop-i.self.seen.words c.from.result 0) (n ∙ sym o) (omega arith) (omega arith) at_old ∙ c.loop-i.invariant.0,
        ap (λ (x : Changes). x.seen) w.self-is ∙ c.loop-i.invariant.1,
        ap (λ (x : Changes). x.capacity) w.self-is ∙ c.loop-i.invariant.2,
      )
      | else-new-from w ↦ (
        ap (λ (x : Changes). before (segments x.trail) (take (i + 1) new ++ drop (i + 1) old)) w.self-is
            ∙ same_word ss new old i (omega arith) (omega arith) (at_new ∙ w.if-new-from.false ∙ at_old) ∙ c.loop-i.invariant.0,
        ap (λ (x : Changes). x.seen) w.self-is ∙ c.loop-i.invariant.1,
        ap (λ (x : Changes). x.capacity) w.self-is ∙ c.loop-i.invariant.2,
      )
    ]

pub returns-clause-notes : goal.returns-clause-notes
returns-clause-notes c =
    let new = take c.args.width c.args.new.words in
    let old = take c.args.width c.args.self.now.seen.words in
    let n : length new ≡ c.args.width = length-take-le c.args.width c.args.new.words (search rules) in
    let o : length old ≡ c.args.width = length-take-le c.args.width c.args.self.now.seen.words (omega (arith, c.args.self.now.bounds.0)) in
    ap (before (segments c.loop-i.self.trail)) (sym (mixed_all c.loop-i.i new old (n ∙ sym o) (omega arith))) ∙ c.loop-i.invariant.0
