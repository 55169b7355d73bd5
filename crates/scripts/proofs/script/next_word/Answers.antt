use Rattle.std.proofs.Common.{arith, sym, ◌∙◌, not}
use Rattle.std.proofs.lemmas.List.Sums.{prefix_len-le-length}
use Rattle.scripts.specs.Parts.{is_blank}
use Rattle.scripts.proofs.Words.{no_word_at, one_word_at}
use Rattle.scripts.proofs.script.next_word.Goals as goal

pub returns-in_err-rest : goal.returns-in_err-rest
returns-in_err-rest c = rw c.from_residual.ensures (no_word_at c.args.line.now (sym c.word_start.ensures ∙ c.in_err-rest.was))

pub split_at-requires : goal.split_at-requires
split_at-requires c = omega (arith, prefix_len-le-length (λ b. not (is_blank b)))

pub returns : goal.returns
returns c = one_word_at c.args.line.now _ _ _ _ (sym c.word_start.ensures ∙ c.in_ok-rest.was) c.word_end.ensures c.split_at.ensures.front c.split_at.ensures.back
