use Rattle.std.proofs.Common.{◌≡◌, None, sym, ◌∙◌}
use Rattle.trails.specs.Entries.{newest_entry}
use Rattle.trails.specs.Segments.{segments}
use Rattle.trailing.proofs.Moves.{none_popped, puts, goes_back}
use Rattle.trailing.proofs.changes.ChangesKeeper.go_back.Goals as goal

pub loop-entry-preserved : goal.loop-entry-preserved
loop-entry-preserved g c =
    let p = c.in-Some.ensures in
    let at = c.from.ensures in (
      λ e. rw at (puts (g.S.Space.meaning c.args.below.now) (g.S.Space.meaning c.loop-entry.below) (g.S.Space.meaning c.set.new.self) (segments c.args.self.now.trail) (segments c.loop-entry.self.trail) (segments c.pop.new.self) c.loop-entry.self.seen.words c.in-Some.entry c.set.result (c.loop-entry.invariant.0 e) (g.met.S.Space.lawful c.loop-entry.below) p.value p.rest c.set.ensures),
      c.loop-entry.invariant.1,
    )

pub returns : goal.returns
returns g c newest older a h =
    let m = g.S.Space.meaning c.args.below.now in
    let b = c.loop-entry.below in
    let ss = segments c.loop-entry.self.trail in
    let p = c.pop.ensures in
    let none : None ≡ newest_entry ss = sym c.in_default.is ∙ p.value in
    let left : segments c.pop.new.self ≡ ss = p.rest ∙ none_popped ss none in
    let put = c.loop-entry.invariant.0 a.seen in
    let f = goes_back g.S.Space.named m (g.S.Space.meaning b) (segments c.args.self.now.trail) ss c.args.self.now.seen.words c.loop-entry.self.seen.words c.args.self.now.capacity newest older a h put none (g.met.S.Space.lawful b) (g.met.S.Loadable.only b) in
    (f.0, rw (left, c.loop-entry.invariant.1) f.1, rw left f.2, c.loop-entry.invariant.1, rw left none)
