-- The code's constants are the numbers of the definitions.
use Rattle.std.proofs.Common.{◌≡◌, refl}
use Rattle.step_plan.specs.declared.bounds.TheConstants.{MOST_CELLS, MOST_RECORDS, MOST_STEPS}
use Rattle.step_plan.specs.Limits.{most_steps}
use Rattle.step_plan.specs.Sound.{most_cells, most_demands}

pub MOST_CELLS-is : MOST_CELLS ≡ most_cells
MOST_CELLS-is = refl

pub MOST_RECORDS-is : MOST_RECORDS ≡ most_demands
MOST_RECORDS-is = refl

pub MOST_STEPS-is : MOST_STEPS ≡ most_steps
MOST_STEPS-is = refl
