use Rattle.std.proofs.Common.{◌≡◌, ◌<◌, ap, ◌∙◌, rules}
use Rattle.std.proofs.lemmas.Result.{MatchResult-at_ok}
use Rattle.words.specs.Values.{left, values_of}
use Rattle.words.proofs.Rising.{coming}
use Rattle.table_networks.proofs.Prices.{seen_none, seen_all, seen_more}
use Rattle.table_networks.proofs.Readings.{there_of}
use Rattle.tables.proofs.costs.least_costs.Goals as goal

pub loop-value-init : goal.loop-value-init
loop-value-init c =
    let e : left c.into_iter-value-iterator.result ≡ values_of c.args.word = ap left c.into_iter-value-iterator.ensures.into_iter_gives ∙ c.of-value-items.ensures in
    (seen_none _ _ _ e, seen_none _ _ _ e)

pub unwrap-s-requires : goal.unwrap-s-requires
unwrap-s-requires c = there_of _ _ _ _ _ _ c.costs.ensures c.requires.0 (coming _ _ _ _ _ c.loop-value.invariant.0.whole c.in-Some.ensures.steps).0

pub loop-value-preserved : goal.loop-value-preserved
loop-value-preserved c =
    let s = c.min-stops.ensures in
    let m = c.min-minutes.ensures in
    let ls : c.unwrap-s.result.0 < 65536 = search rules in
    let lm : c.unwrap-s.result.1 < 65536 = search rules in
    let e = MatchResult-at_ok _ _ _ c.unwrap-s.ensures c.costs.ensures in (
      rw s (seen_more _ _ _ _ _ _ _ _ c.loop-value.invariant.0 c.in-Some.ensures.steps e.0 ls),
      rw m (seen_more _ _ _ _ _ _ _ _ c.loop-value.invariant.1 c.in-Some.ensures.steps e.1 lm),
    )

pub returns : goal.returns
returns c = record {
  stops = seen_all _ _ _ _ _ c.ranges.word.fits c.requires.1 c.loop-value.invariant.0 c.in-None.ensures.steps.0;
  minutes = seen_all _ _ _ _ _ c.ranges.word.fits c.requires.1 c.loop-value.invariant.1 c.in-None.ensures.steps.0;
}
