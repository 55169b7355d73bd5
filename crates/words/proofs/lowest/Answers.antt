use Rattle.std.proofs.Common.{ℕ, ap}
use lib.Count.{count_trailing_zeros}
use Rattle.words.proofs.Bit.{is_lowest}
use Rattle.words.proofs.lowest.Goals as goal

pub returns : goal.returns
unfolding count_trailing_zeros
returns c = record {
  least = λ ne. is_lowest c.args.word ne c.ranges.word.fits;
  none = λ e. ap (λ (w : ℕ). count_trailing_zeros 32 w) e;
}
