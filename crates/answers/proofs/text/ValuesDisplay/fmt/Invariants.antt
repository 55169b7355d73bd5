use Rattle.std.proofs.Common.{slice_index}
use Rattle.std.specs.Fmt.{HasWritten, IsPlainFormatter}
use Rattle.std.specs.Int.Count.{count_trailing_zeros}
use Rattle.answers.specs.Texts.{listed}
use Rattle.answers.proofs.text.ValuesDisplay.fmt.Given as goal

abbrev pub invariant-loop-word : goal.invariant-loop-word
invariant-loop-word g l =
    IsPlainFormatter l.initial.f → HasWritten g.W.Write.write_str_gives l.initial.f (listed (λ i. count_trailing_zeros 32 (slice_index l.self.0.now i)) l.word-index) l.f
