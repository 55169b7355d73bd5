use Rattle.std.proofs.Common.{◌≡◌, ℕ, true, eqb, List, sym, ap, ◌∙◌, subst}
use Rattle.propagation.specs.Networks.{Settled, Supported}
use Rattle.propagation.specs.Closing.{closure}
use Rattle.propagation.proofs.Closures.{closure_supported}
use Rattle.problems.proofs.Narrowing.{part_settled}
use Rattle.problems.proofs.child_within.Goals as goal

pub returns-then-closed : goal.returns-then-closed
returns-then-closed g c =
    let p = g.P.Constraints.network c.args.problem.now in
    let n = c.args.node.words in
    let S : List ℕ → Type 0 = (λ m. Settled p m c.only-moved.result) in
    let one = rw c.from.ensures at c.only-moved.ensures.one in
    let ready = λ (h : c.args.closed ≡ true → Supported p n).
    subst S (sym c.narrow.ensures.value) (part_settled p c.close_after.ensures.sane n c.args.choice.0 c.args.choice.1 c.only-moved.result c.narrow.ensures.fit (eqb c.args.alternative 0) (h c.if-closed.true) one) in
    record {
      value = λ h. c.close_after.ensures.value (ready h) ∙ ap (closure p) c.narrow.ensures.value;
      settled = λ h. closure_supported p _ _ (c.close_after.ensures.largest (ready h));
    }
