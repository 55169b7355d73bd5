use Rattle.std.proofs.Common.{ap, ◌∙◌}
use Rattle.problems.proofs.Leaves.{leaves_solve}
use Rattle.problems.proofs.Laws.{orderly, solved_costs}
use Rattle.propagation.specs.Closing.{closure}
use Rattle.propagation.proofs.Closures.{closure_supported}
use Rattle.problems.proofs.root.Goals as goal

pub returns : goal.returns
returns g c =
    let p = g.P.Constraints.network c.args.problem.now in
    let b = g.P.Problem.bound c.args.problem.now in
    let o = g.P.Problem.cost c.args.problem.now in
    let s = g.P.Problem.start c.args.problem.now in
    let l = c.start.ensures.lawful in
    record {
      value = c.close.ensures.value ∙ ap (closure p) c.start.ensures.value;
      leaves = leaves_solve p l.sane l.high s b l.proper;
      priced = l.priced;
      orderly = orderly p l.sane l.high s b l.proper l.priced;
      costs = solved_costs p.width b o l.priced;
      settled = closure_supported p _ _ c.close.ensures.largest;
    }
