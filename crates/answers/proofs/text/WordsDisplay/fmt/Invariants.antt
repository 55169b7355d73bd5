use Rattle.std.proofs.Common.{slice_index}
use Rattle.std.specs.Fmt.{HasWritten, IsPlainFormatter}
use Rattle.answers.specs.Texts.{listed}
use Rattle.answers.proofs.text.WordsDisplay.fmt.Given as goal

abbrev pub invariant-loop-word : goal.invariant-loop-word
invariant-loop-word g l =
    IsPlainFormatter l.initial.f → HasWritten g.W.Write.write_str_gives l.initial.f (listed (λ i. slice_index l.self.0.now i) l.word-index) l.f
