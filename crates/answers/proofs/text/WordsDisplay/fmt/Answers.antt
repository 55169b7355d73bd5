use Rattle.std.proofs.Common.{rules, refl}
use Rattle.std.proofs.lemmas.Grind.{put_two}
use Rattle.answers.specs.Texts.{listed}
use Rattle.answers.proofs.Lines.{listed_more}
use Rattle.answers.proofs.text.WordsDisplay.fmt.Goals as goal

pub loop-word-init : goal.loop-word-init
unfolding listed
loop-word-init g c = search rules

pub loop-word-preserved : goal.loop-word-preserved
loop-word-preserved g c = λ p. put_two _ _ _ _ _ _ _ (c.loop-word.invariant p) (search rules) (listed_more _ _ _ refl)
