use Rattle.std.proofs.Common.{ap, ◌∙◌, rules, length}
use Rattle.words.specs.Values.{values_of}
use Rattle.words.proofs.Rising.{first_then, none_left}
use Rattle.words.proofs.ValuesIterator.next.Goals as goal

pub returns-then-self-eq0-clause-steps : goal.returns-then-self-eq0-clause-steps
returns-then-self-eq0-clause-steps c = let e = ap values_of c.if-self-eq0.true ∙ none_left in (e, e)

pub returns-clause-steps : goal.returns-clause-steps
returns-clause-steps c = first_then _ _ _ (c.lowest-value.ensures.least c.if-self-eq0.false) c.without-self.ensures

pub returns-clause-goes : goal.returns-clause-goes
returns-clause-goes c = let e = ap length (first_then _ _ _ (c.lowest-value.ensures.least c.if-self-eq0.false) c.without-self.ensures) in search rules
