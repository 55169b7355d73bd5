use Rattle.std.proofs.Common.{ℕ, sym, subst, inl, inr}
use lib.Bits.{bit_and, bit_xor}
use Rattle.std.proofs.lemmas.Bool.{cases_lt}
use Rattle.words.specs.Words.{Without}
use Rattle.words.proofs.Bit.{is_without, without_past}
use Rattle.words.proofs.without.Goals as goal

pub returns : goal.returns
returns c =
    let w = c.args.word in
    let P : ℕ → Type 0 = (λ m. Without w c.args.value (bit_xor w (bit_and w m))) in
    elim (cases_lt c.args.value 32) [
      | inl h ↦ is_without w c.args.value _ (c.only.ensures.one h)
      | inr g ↦ subst P (sym (c.only.ensures.none g)) (without_past 32 w c.args.value c.ranges.word.fits g)
    ]
