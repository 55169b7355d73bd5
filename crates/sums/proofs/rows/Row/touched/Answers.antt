use Rattle.std.proofs.Common.{sym, refl, ap, ◌∙◌, arith, w32, to_z, of_z}
use Rattle.std.proofs.lemmas.Int.{to_z-of_z}
use Rattle.files.specs.Meaning.{bytes_of}
use Rattle.sum_networks.specs.Sums.{mask}
use Rattle.sum_networks.specs.Files.{sum_at}
use Rattle.sum_networks.proofs.Cutting.{mask_yes, mask_no}
use Rattle.sum_networks.proofs.Reached.{small_fits}
use Rattle.sums.proofs.rows.Row.touched.Goals as goal
use Rattle.sums.proofs.rows.Row.touched.Goals.{then-coefficient-ne0, else-coefficient-ne0}

pub loop-i-init : goal.loop-i-init
unfolding mask
loop-i-init c = refl

pub loop-i-preserved : goal.loop-i-preserved
loop-i-preserved c =
    let s = sum_at (bytes_of c.args.self.now.view.now) c.args.self.now.k in
    let v = c.coefficient.ensures in
    elim c.if-coefficient-ne0.branch [
      | then-coefficient-ne0 w ↦
          w.touched-is
          ∙ mask_yes s c.loop-i.i c.loop-i.touched w.only-touched.result c.loop-i.invariant
          (w.only-touched.ensures.one (omega (arith, c.loop-i-test.true, c.variables-i-end.ensures.high))).is
          (λ z. w.if-coefficient-ne0.true (ap (of_z w32) (v ∙ z)))
      | else-coefficient-ne0 w ↦
          w.touched-is
          ∙ mask_no s c.loop-i.i c.loop-i.touched c.loop-i.invariant
          (sym v ∙ sym (to_z-of_z w32 c.coefficient.result.value (small_fits _ c.coefficient.result.small)) ∙ ap (to_z w32) w.if-coefficient-ne0.false)
    ]
