use Rattle.std.proofs.Common.{◌≡◌, length, take}
use Rattle.space.specs.Meaning.{words_now}
use Rattle.loading.proofs.copy_out.Given as goal

abbrev pub invariant-loop-i : goal.invariant-loop-i
invariant-loop-i g l =
    (length l.words ≡ 32) × (take l.i l.words ≡ take l.i (words_now (g.S.Space.meaning l.space)))
