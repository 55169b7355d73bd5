use Rattle.std.proofs.Common.{refl}
use Rattle.std.proofs.lemmas.Bool.{both_ways}
use Rattle.words.specs.Words.{bit}
use Rattle.words.proofs.Bit.{bit_zero}
use Rattle.words.proofs.change.Goals as goal

pub returns-then-after-before : goal.returns-then-after-before
returns-then-after-before c =
    record {
      one = λ _. record { same = λ _. c.if-after-before.true; other = λ j h. absurd (both_ways (bit 0 j) (bit_zero j) h) };
      none = λ _. refl;
    }

pub returns-else-after-before : goal.returns-else-after-before
returns-else-after-before c =
    record {
      one = λ l. record {
        same = λ f. absurd (both_ways (bit c.only.result c.args.i) f (c.only.ensures.one l).there);
        other = λ j h. ((c.only.ensures.one l).alone j h, c.if-after-before.false);
      };
      none = c.only.ensures.none;
    }
