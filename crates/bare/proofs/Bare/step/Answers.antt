use Rattle.std.proofs.Common.{ℕ, ap, ◌∙◌, arith}
use Rattle.nodes.specs.Choosing.{status}
use Rattle.bare.specs.Steps.{is_closed, stepped}
use Rattle.bare.proofs.Bare.step.Goals as goal

pub invariant_of-self : goal.invariant_of-self
invariant_of-self g c =
    let b = c.args.self.now in
    let k = c.child_within-self.ensures in
    let w = is_closed _ _ b.known _ c.is_some-closed.ensures b.agrees.remembered in
    let e = c.status.ensures.value ∙ ap (λ (x : ℕ). status x c.child_within-self.result.words) c.width.ensures.value in
    record { agrees = (stepped _ _ _ (g.P.Problem.cost b.problem) _ _ c.child_within-self.result.words b.allowance b.allowance c.args.alternative _ _ c.args.choice b.agrees c.requires (k.value w) (k.settled w) e (omega arith)).2 }

pub returns : goal.returns
returns g c =
    let b = c.args.self.now in
    let k = c.child_within-self.ensures in
    let w = is_closed _ _ b.known _ c.is_some-closed.ensures b.agrees.remembered in
    let e = c.status.ensures.value ∙ ap (λ (x : ℕ). status x c.child_within-self.result.words) c.width.ensures.value in
    (stepped _ _ _ (g.P.Problem.cost b.problem) _ _ c.child_within-self.result.words b.allowance b.allowance c.args.alternative _ _ c.args.choice b.agrees c.requires (k.value w) (k.settled w) e (omega arith)).1
