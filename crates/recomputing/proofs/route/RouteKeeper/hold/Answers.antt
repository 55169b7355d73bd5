use Rattle.std.proofs.Common.{sym, ◌∙◌, refl}
use Rattle.recomputing.proofs.Marking.{holds_alone, holds_refused, holds_checked}
use Rattle.recomputing.proofs.route.RouteKeeper.hold.Goals as goal
use Rattle.recomputing.proofs.route.RouteKeeper.hold.Goals.{else-due-via-then-due+else-is_ok, else-due-via-else-due}

pub returns-then-is_ok : goal.returns-then-is_ok
returns-then-is_ok g c a h =
    holds_checked (g.S.Space.meaning c.args.below.now) (g.S.Space.meaning c.mark.new.self) c.args.self.now.trace c.hold.new.self c.check.new.self c.mark.result (g.met.S.Space.lawful c.args.below.now) a h c.hold.ensures (sym c.due-due.ensures.value ∙ c.if-due.true) c.mark.ensures (sym c.is_ok.ensures.value ∙ c.if-is_ok.true) c.check.ensures

pub returns-else-due : goal.returns-else-due
returns-else-due g c a h = elim c.else-due.branch [
  | else-due-via-then-due+else-is_ok w ↦ rw (w.self-is, w.below-is) (holds_refused (g.S.Space.meaning c.args.below.now) (g.S.Space.meaning w.mark.new.self) c.args.self.now.trace c.hold.new.self w.mark.result a h c.hold.ensures w.mark.ensures (sym w.is_ok.ensures.value ∙ w.if-is_ok.false))
  | else-due-via-else-due w ↦ rw (w.self-is, w.below-is) (holds_alone (g.S.Space.meaning c.args.below.now) (g.S.Space.meaning c.args.below.now) c.args.self.now.trace c.hold.new.self a h c.hold.ensures refl (let d = sym c.due-due.ensures.value ∙ w.if-due.false in rw d refl))
]
