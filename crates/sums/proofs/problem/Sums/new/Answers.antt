use Rattle.std.proofs.Common.{ℕ, ◌<◌, length, refl, ◌∙◌, arith}
use Rattle.std.proofs.lemmas.List.{length-set}
use Rattle.std.proofs.lemmas.List.Edits.{fill_by_more}
use Rattle.files.specs.Meaning.{bytes_of}
use Rattle.records.specs.Sums.{sum_width, sum_count}
use Rattle.sum_networks.specs.Sums.{mask}
use Rattle.sum_networks.specs.Files.{sum_at}
use Rattle.sum_networks.proofs.Keeping.{support_law, bound_law}
use Rattle.sums.proofs.problem.Sums.new.Goals as goal

pub loop-k-preserved : goal.loop-k-preserved
loop-k-preserved c =
    let bs = bytes_of c.args.view in
    let below : c.loop-k.k < length c.loop-k.touched = omega (arith, c.loop-k-test.true, c.sums-k-end.ensures.high, c.loop-k.invariant.0) in
    let inside : c.loop-k.k < sum_count bs = omega (arith, c.loop-k-test.true, c.sums-k-end.ensures.value) in
    let e = c.touched_by.ensures inside in (
      length-set c.loop-k.touched c.loop-k.k c.touched_by.result ∙ c.loop-k.invariant.0,
      rw e (fill_by_more (λ (j : ℕ). mask (sum_at bs j) (sum_width bs)) c.loop-k.touched c.loop-k.k 0 below c.loop-k.invariant.1),
    )

pub invariant_of-result : goal.invariant_of-result
invariant_of-result c = record { ok = λ k l. c.loop-k.invariant.1 k (omega (arith, l, c.loop-k-test.false, c.sums-k-end.ensures.value)) }

pub returns : goal.returns
returns c = record { shows = refl; support = λ k. support_law _ _; bounded = bound_law _ _ }
