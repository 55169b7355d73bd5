use Rattle.std.proofs.Common.{take}
use Rattle.std.specs.Fmt.{HasWritten, IsPlainFormatter}
use Rattle.reply_texts.specs.Replies.{answers_text}
use Rattle.reply_texts.proofs.LinesDisplay.fmt.Given as goal

abbrev pub invariant-loop-answer : goal.invariant-loop-answer
invariant-loop-answer g l =
    IsPlainFormatter l.initial.f → HasWritten g.W.Write.write_str_gives l.initial.f (answers_text g.C.Shown.shown (take l.answer-index l.answer-items)) l.f
