use Rattle.std.proofs.Common.{◌≡◌, length, rules}
use Rattle.std.specs.Int.Count.{count_trailing_zeros}
use Rattle.answers.proofs.Lines.{first_listed}
use Rattle.answers.proofs.text.first.Goals as goal

pub returns : goal.returns
returns c =
    let long : length c.args.words.now ≡ 32 = search rules in
    record {
      words = first_listed (λ w. w) _ _ _ long c.min.ensures;
      values = first_listed (count_trailing_zeros 32) _ _ _ long c.min.ensures;
    }
