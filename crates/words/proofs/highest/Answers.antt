use Rattle.std.proofs.Common.{ℕ, ◌-◌, sym, ap, ◌∙◌, subst}
use lib.Count.{count_leading_zeros}
use Rattle.words.specs.Words.{Highest}
use Rattle.words.proofs.Bit.{is_highest}
use Rattle.words.proofs.highest.Goals as goal

pub returns : goal.returns
unfolding count_leading_zeros
returns c =
    let e = c.saturating_sub.ensures in
    let P : ℕ → Type 0 = (λ v. Highest c.args.word v) in
    record {
      most = λ ne. subst P (sym e) (is_highest c.args.word ne c.ranges.word.fits).1;
      none = λ z. e ∙ ap (λ (w : ℕ). 31 - count_leading_zeros 32 w) z;
    }
