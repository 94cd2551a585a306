-- The code's constant is the number of the definition.
use Rattle.std.proofs.Common.{◌≡◌, refl}
use Rattle.connector_flow.specs.Space.{boundless}
use Rattle.connector_flow.specs.declared.space.TheConstants.{BOUNDLESS}

pub BOUNDLESS-is : BOUNDLESS ≡ boundless
BOUNDLESS-is = refl
