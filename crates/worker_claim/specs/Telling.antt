-- What an observer was told of the steps that were published.
use Rattle.std.specs.Prelude.{ℕ, ◌<◌, List, length, slice_index_or}
use Rattle.region_slots.specs.Moments.{AreTold}
use Rattle.worker_claim.specs.declared.helper.Helper.{Helper}
use Rattle.worker_claim.specs.declared.member.Member.{Member}

-- each step that a member of a crew published was told
pub record AreMembersTold (held freed : (region step : ℕ) → Type 0) (old new : List Member) : Type 0 where
  pub each : (k : ℕ) (d : Member) → k < length old → AreTold held freed (slice_index_or old k d).pass.knows.log (slice_index_or new k d).pass.knows.log

-- and of each helper
pub record AreHelpersTold (held freed : (region step : ℕ) → Type 0) (old new : List Helper) : Type 0 where
  pub each : (k : ℕ) (d : Helper) → k < length old → AreTold held freed (slice_index_or old k d).member.pass.knows.log (slice_index_or new k d).member.pass.knows.log
