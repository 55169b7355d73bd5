use Rattle.std.proofs.Common.{arith}
use Rattle.words.proofs.Bit.{is_only}
use Rattle.words.proofs.only.Goals as goal

pub returns-then-value-lt32 : goal.returns-then-value-lt32
returns-then-value-lt32 c = record { one = λ h. is_only c.args.value h; none = λ h. absurd (omega (arith, c.if-value-lt32.true)) }
