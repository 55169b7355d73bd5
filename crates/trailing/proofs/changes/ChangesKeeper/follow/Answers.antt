use Rattle.std.proofs.Common.{◌≡◌, take, ap, ◌∙◌}
use Rattle.nodes.specs.declared.node.Node.{Node}
use Rattle.space.specs.Meaning.{words_now}
use Rattle.trails.specs.Segments.{segments}
use Rattle.trails.specs.Entries.{before}
use Rattle.trailing.proofs.Moves.{follows}
use Rattle.trailing.proofs.changes.ChangesKeeper.follow.Goals as goal

pub returns : goal.returns
returns g c m w a e =
    let n = g.S.Space.meaning c.args.below.now in
    let old = c.args.self.now in
    let new = c.note_changes.new.self in
    let at = c.width.ensures.value in
    let words = c.copy_out.ensures in
    let noted = c.note_changes.ensures.notes in
    let notes : before (segments new.trail) (words_now n) ≡ before (segments old.trail) (take n.width old.seen.words) = cc in
    let seen : take n.width new.seen.words ≡ words_now n = ap (λ (x : Node). take n.width x.words) c.note_changes.ensures.seen ∙ words in
    let f = follows g.S.Space.named m n _ (segments old.trail) (segments new.trail) old.seen.words new.seen.words old.capacity a e notes seen in
    (rw c.note_changes.ensures.capacity f.0, f.1, c.note_changes.ensures.capacity, tt)
