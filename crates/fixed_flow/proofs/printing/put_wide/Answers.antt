use Rattle.std.proofs.Common.{refl, to_z-of_z}
use Rattle.fixed_flow.proofs.PrintedFacts.{signed_amount_text-negative, signed_amount_text-positive}
use Rattle.fixed_flow.proofs.printing.put_wide.Goals as goal
use Rattle.fixed_flow.proofs.printing.put_wide.Goals.{then-value-lt0, else-value-lt0}

pub returns : goal.returns
returns c =
    let fits = c.ranges.value in
    let size = simp to_z-of_z at c.unsigned_abs.ensures.value in
    elim c.if-value-lt0.branch [
      | then-value-lt0 w ↦ rw (signed_amount_text-negative c.args.value (simp to_z-of_z at w.if-value-lt0.true), c.append_wide.ensures, size, w.text-is, w.push.ensures, c.clear.ensures) refl
      | else-value-lt0 w ↦ rw (signed_amount_text-positive c.args.value (simp to_z-of_z at w.if-value-lt0.false), c.append_wide.ensures, size, w.text-is, c.clear.ensures) refl
    ]
