use Rattle.std.proofs.Common.{rules, get_or, w32, Fits}
use Rattle.std.proofs.lemmas.Grind.{put_two}
use Rattle.answers.specs.Texts.{listed}
use Rattle.answers.proofs.Lines.{listed_more, lowest_is}
use Rattle.answers.proofs.text.ValuesDisplay.fmt.Goals as goal

pub loop-word-init : goal.loop-word-init
unfolding listed
loop-word-init g c = search rules

pub loop-word-preserved : goal.loop-word-preserved
loop-word-preserved g c = λ p.
    let word : Fits w32 (get_or c.args.self.now.0.now c.loop-word.word-index 0) = search rules in
    put_two _ _ _ _ _ _ _ (c.loop-word.invariant p) (search rules) (listed_more _ _ _ (lowest_is _ _ word.fits c.lowest.ensures.least c.lowest.ensures.none))
