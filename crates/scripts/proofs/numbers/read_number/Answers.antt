use Rattle.std.proofs.Common.{Some, sym, ap, ◌∙◌, arith}
use Rattle.scripts.proofs.Caps.{one_digit}
use Rattle.scripts.proofs.numbers.read_number.Goals as goal

pub loop-byte-preserved : goal.loop-byte-preserved
loop-byte-preserved c = (
  omega arith,
  one_digit 1000000000000 c.loop-byte.number _ c.from.result c.loop-byte.byte-index c.args.text.now (omega arith)
      (sym c.digit.ensures ∙ (c.in_ok-digit.was ∙ ap Some (sym c.from.ensures))) c.min-number.ensures ∙ c.loop-byte.invariant.1,
)
