use Rattle.std.proofs.Common.{◌≡◌}
use Rattle.recomputing.specs.Paths.{Redoable, at_depth}
use Rattle.recomputing.proofs.route.redo_path.Given as goal

abbrev pub invariant-loop-k : goal.invariant-loop-k
invariant-loop-k g l =
    Redoable (g.S.Space.meaning l.initial.below) l.trace.path l.from l.to → g.S.Space.meaning l.below ≡ at_depth (g.S.Space.meaning l.initial.below) l.trace.path l.k
