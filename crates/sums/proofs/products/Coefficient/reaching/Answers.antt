use Rattle.std.proofs.Common.{ap, ◌∙◌, w64}
use Rattle.std.proofs.lemmas.Int.{to_z-of_z}
use Rattle.words.specs.Values.{left}
use Rattle.words.proofs.Rising.{coming}
use Rattle.sum_networks.proofs.Reached.{Seen, lt_of, le_of, start, finish, reaches, misses, all_reach, above}
use Rattle.sums.proofs.products.Coefficient.reaching.Goals as goal

pub loop-value-init : goal.loop-value-init
loop-value-init c = start _ _ _ _ (ap left c.into_iter-value-iterator.ensures.into_iter_gives ∙ c.of-value-items.ensures)

pub times-requires : goal.times-requires
times-requires c = (coming _ _ _ _ _ c.loop-value.invariant.whole c.in-Some.ensures.steps).0

pub loop-value-preserved-then-times-need : goal.loop-value-preserved-then-times-need
loop-value-preserved-then-times-need c =
    misses _ _ _ _ _ _ _ _ c.loop-value.invariant c.in-Some.ensures.steps (lt_of _ _ _ (record { sfits = c.times.type_inv }) c.times.ensures c.if-times-need.true) _ c.without-supported.ensures

pub loop-value-preserved : goal.loop-value-preserved
loop-value-preserved c =
    reaches _ _ _ _ _ _ _ _ c.loop-value.invariant c.in-Some.ensures.steps (le_of _ _ _ (record { sfits = c.times.type_inv }) c.times.ensures c.if-times-need.false)

pub returns : goal.returns
returns c =
    let s = c.loop-value.invariant in
    let r : Seen c.args.self.value c.args.word c.args.need c.loop-value.yielded (left c.loop-value.value-iterator) c.loop-value.supported = (let e = to_z-of_z w64 c.args.need c.ranges.need in simp e at s) in
    finish _ _ _ _ _ _ c.ranges.word.fits c.in-None.ensures.steps.0 r

pub returns-then-least-need : goal.returns-then-least-need
returns-then-least-need c =
    all_reach _ _ _ c.requires
    (above _ c.least.result _ _ _ (to_z-of_z w64 c.args.need c.ranges.need) (record { sfits = c.least.type_inv }) c.least.ensures c.if-least-need.true)
