use Rattle.std.proofs.Common.{inl, inr, arith, subst, sym}
use Rattle.std.proofs.lemmas.Bool.{cases_eq}
use Rattle.region_step.specs.Starting.{IsCellInBounds}
use Rattle.region_step.proofs.start.are_in_bounds.Goals as goal

pub loop-i-preserved : goal.loop-i-preserved
loop-i-preserved c j below = elim (cases_eq j c.loop-i.i) [
  | inl same ↦ subst (IsCellInBounds c.args.layout.now.net c.args.layout.now.chart.cut c.args.start.now) (sym same) (c.is_cell_in_bounds.ensures.0 cc)
  | inr other ↦ c.loop-i.invariant j (omega (arith, below, other))
]
