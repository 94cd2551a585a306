-- The passes of the workers, before and after the run.
use Rattle.std.specs.Prelude.{◌≡◌, ◌⊎◌, ◌≤◌, List}
use Rattle.std.specs.List.{Contains}
use Rattle.region_cut.specs.Cuttings.{region_count}
use Rattle.border_rows.specs.declared.view.PublishedStep.{PublishedStep}
use Rattle.region_slots.specs.FieldView.{FieldValue, IsPassOf, PassValue}
use Rattle.parked_crew.specs.Parking.{HasSeenAll}

-- a pass of the field with one seat, which has published nothing past the last step
pub record IsSeat (field : FieldValue) (pass : PassValue) : Type 0 where
  pub belongs : IsPassOf field pass
  pub share : pass.knows.share ≡ 1
  pub reach : pass.knows.reach ≤ field.terms.setup.now.net.steps

-- one that has seen all regions at the last step besides
pub record HasCome (field : FieldValue) (pass : PassValue) : Type 0 where
  pub seat : IsSeat field pass
  pub seen : HasSeenAll (region_count field.terms.setup.now.chart.cut) field.terms.setup.now.net.steps pass.knows

-- each step of a log stands in another one or in that of a pass
abbrev pub AreFrom : List PublishedStep → List PassValue → (log : List PublishedStep) → Type 0
AreFrom own passes log = (entry : PublishedStep) → Contains log entry → Contains own entry ⊎ ((pass : PassValue) × Contains passes pass × Contains pass.knows.log entry)
