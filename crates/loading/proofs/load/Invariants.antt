use Rattle.std.proofs.Common.{◌≡◌, take}
use Rattle.space.specs.Meaning.{words_now, placed}
use Rattle.loading.proofs.load.Given as goal

abbrev pub invariant-loop-i : goal.invariant-loop-i
invariant-loop-i g l =
    (g.S.Space.meaning l.space ≡ placed (g.S.Space.meaning l.initial.space) (g.S.Space.meaning l.space).current (g.S.Space.meaning l.initial.space).held)
    × (take l.i (words_now (g.S.Space.meaning l.space)) ≡ take l.i l.node.words)
