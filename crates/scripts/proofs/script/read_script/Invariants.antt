use Rattle.std.proofs.Common.{length, vec_items}
use Rattle.scripts.proofs.Scripted.{ReadUp}
use Rattle.scripts.proofs.script.read_script.Given as goal

abbrev pub invariant-loop-before : goal.invariant-loop-before
invariant-loop-before l = ReadUp l.text (length l.yielded) (vec_items l.calls)
