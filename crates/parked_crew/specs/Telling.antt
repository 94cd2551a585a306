-- What an observer was told of the steps that were published.
use Rattle.std.specs.Prelude.{ℕ, ◌<◌, List, length, slice_index_or}
use Rattle.region_slots.specs.FieldView.{PassValue}
use Rattle.region_slots.specs.Moments.{AreTold}

-- each step that was published through a pass of a crew was told
pub record ArePassesTold (held freed : (region step : ℕ) → Type 0) (old new : List PassValue) : Type 0 where
  pub each : (k : ℕ) (d : PassValue) → k < length old → AreTold held freed (slice_index_or old k d).knows.log (slice_index_or new k d).knows.log
