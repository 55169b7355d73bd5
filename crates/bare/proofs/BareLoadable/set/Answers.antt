use Rattle.std.proofs.Common.{arith}
use Rattle.bare.specs.Steps.{loaded, word_set}
use Rattle.bare.proofs.BareLoadable.set.Goals as goal

pub invariant_of-self : goal.invariant_of-self
invariant_of-self g c =
    let b = c.args.self.now in
    record { agrees = (loaded _ _ _ (g.P.Problem.cost b.problem) _ _ _ c.args.i c.args.word _ b.agrees (omega (arith, c.width.ensures.value)) (omega arith)).1 }

pub returns : goal.returns
returns g c =
    let b = c.args.self.now in
    let l = loaded _ _ _ (g.P.Problem.cost b.problem) _ _ _ c.args.i c.args.word _ b.agrees (omega (arith, c.width.ensures.value)) (omega arith) in
    (word_set _ c.args.i (omega (arith, c.width.ensures.value)), ((λ h. l.0), (λ h. absurd (omega (arith, c.width.ensures.value)))))
