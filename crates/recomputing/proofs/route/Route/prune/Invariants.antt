use Rattle.std.proofs.Common.{◌≡◌, length}
use Rattle.layers.specs.Moves.{At}
use Rattle.recomputing.specs.Agreement.{Loose}
use Rattle.recomputing.specs.Effects.{pruned_line}
use Rattle.recomputing.proofs.route.Route.prune.Given as goal

abbrev pub invariant-loop-below : goal.invariant-loop-below
invariant-loop-below g l =
    let m = g.S.Space.meaning l.initial.below in
    let n = g.S.Space.meaning l.below in
    Loose m l.initial.self.trace → At m m.current n × Loose n l.self.trace × (pruned_line l.self.trace ≡ pruned_line l.initial.self.trace)

abbrev pub decreases-loop-below : goal.decreases-loop-below
decreases-loop-below g l = length l.self.trace.checks
