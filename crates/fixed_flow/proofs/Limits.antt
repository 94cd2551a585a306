-- The code's constants are the numbers of the definitions.
use Rattle.std.proofs.Common.{◌≡◌, refl}
use Rattle.fixed_flow.specs.declared.amount.TheConstants.{MOST_PARTS, PARTS_PER_VEHICLE}
use Rattle.fixed_flow.specs.declared.share.TheConstants.{MOST_RATIO}
use Rattle.fixed_flow.specs.Limits.{most_parts, most_ratio, parts_per_vehicle}

pub PARTS_PER_VEHICLE-is : PARTS_PER_VEHICLE ≡ parts_per_vehicle
PARTS_PER_VEHICLE-is = refl

pub MOST_PARTS-is : MOST_PARTS ≡ most_parts
MOST_PARTS-is = refl

pub MOST_RATIO-is : MOST_RATIO ≡ most_ratio
MOST_RATIO-is = refl
