use Rattle.std.proofs.Common.{ℕ, ap, ◌∙◌}
use lib.Bits.{bit_and}
use Rattle.std.proofs.lemmas.Result.{MatchResult-at_ok}
use Rattle.files.specs.Meaning.{bytes_of}
use Rattle.records.specs.Tables.{table_row}
use Rattle.words.specs.Values.{left}
use Rattle.words.proofs.Rising.{coming}
use Rattle.table_networks.proofs.Readings.{there_of}
use Rattle.table_networks.proofs.Progress.{start, finish, stays, goes}
use Rattle.tables.proofs.partners.partners.Goals as goal
use Rattle.tables.proofs.partners.partners.Goals.{then-row-eq0, else-row-eq0}

pub unwrap-requires : goal.unwrap-requires
unwrap-requires c = there_of _ _ _ _ _ _ c.row.ensures c.requires (coming _ _ _ _ _ c.loop-a.invariant.whole c.in-Some.ensures.steps).0

pub loop-a-init : goal.loop-a-init
loop-a-init c = start _ _ _ _ (ap left c.into_iter-a-iterator.ensures.into_iter_gives ∙ c.of-a-items.ensures)

pub loop-a-preserved : goal.loop-a-preserved
loop-a-preserved c =
    let is = ap (λ (x : ℕ). bit_and x c.args.wy) {y = table_row (bytes_of c.args.view.now) c.args.k c.in-Some.a} (MatchResult-at_ok _ _ _ c.unwrap.ensures c.row.ensures).0 in
    elim c.if-row-eq0.branch [
      | then-row-eq0 w ↦ goes _ _ _ _ _ _ _ _ _ _ c.loop-a.invariant c.in-Some.ensures.steps is w.if-row-eq0.true _
          (let e = w.supported-is in rw e w.without-supported.ensures)
      | else-row-eq0 w ↦ (let e = w.supported-is in rw e (stays _ _ _ _ _ _ _ _ _ _ c.loop-a.invariant c.in-Some.ensures.steps is w.if-row-eq0.false))
    ]

pub returns : goal.returns
returns c = finish _ _ _ _ _ _ _ c.ranges.wx.fits c.loop-a.invariant c.in-None.ensures.steps.0
