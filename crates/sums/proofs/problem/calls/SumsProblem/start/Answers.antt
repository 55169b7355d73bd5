use Rattle.std.proofs.Common.{◌≡◌, ℕ, cond, ltb, List, get_or, subst, rules}
use Rattle.records.specs.Sums.{sum_width}
use Rattle.sums.specs.Meaning.{file_of}
use Rattle.words.specs.Words.{Proper}
use Rattle.words.proofs.Made.{made_by}
use Rattle.sum_networks.proofs.Cutting.{start_words, start_done, start_proper}
use Rattle.sum_networks.proofs.Keeping.{sums_priced, sums_sane}
use Rattle.records.proofs.Facts.{width_some, width_few}
use Rattle.sums.proofs.problem.calls.SumsProblem.start.Goals as goal

words_are : (c : goal.After-from_fn-words) (j : ℕ) → get_or c.from_fn-words.result j 0 ≡ cond (ltb j (sum_width (file_of c.args.self.now))) 3 0
words_are c =
    let w = sum_width (file_of c.args.self.now) in
    start_words w _ (width_few _ c.args.self.now.view.ok) c.from_fn-words.ensures.items.long
    (λ i l. made_by _ _ (λ k x. x ≡ cond (ltb k w) 3 0) (λ k y t e. (search rules, search rules)) _ 32 i c.from_fn-words.ensures.items l)

pub returns : goal.returns
returns c =
    let bs = file_of c.args.self.now in
    let v = start_done bs _ c.from_fn-words.ensures.items.long (words_are c) in
    let S : List ℕ → Type 0 = (λ ws. Proper (sum_width bs) ws) in
    record {
      value = v;
      lawful = record {
        low = width_some _ c.args.self.now.view.ok;
        high = width_few _ c.args.self.now.view.ok;
        sane = sums_sane _ _ _ (width_some _ c.args.self.now.view.ok);
        proper = subst S v (start_proper (sum_width bs) _ c.from_fn-words.ensures.items.long (words_are c));
        priced = sums_priced _ _;
      };
    }
