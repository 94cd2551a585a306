-- The members of a crew that sweeps.
use Rattle.std.specs.Prelude.{◌≡◌, ℕ, ◌<◌, List, length, slice_index_or}
use Rattle.region_cut.specs.Cuttings.{region_count}
use Rattle.region_slots.specs.FieldView.{FieldValue, IsPassOf}
use Rattle.worker_claim.specs.Members.{IsMemberOf}
use Rattle.worker_claim.specs.declared.member.Member.{Member}
use Rattle.sweeping_crew.specs.Driving.{HasDriven}

abbrev pub AreMembersOf : FieldValue → List Member → Type 0
AreMembersOf field members = (k : ℕ) (d : Member) → k < length members → IsMemberOf field (slice_index_or members k d)

-- what a drive leaves of a member
pub record IsDriven (field : FieldValue) (goal sweeps : ℕ) (old new : Member) : Type 0 where
  pub belongs : IsPassOf field new.pass
  pub same : (new.pass.id ≡ old.pass.id) × (new.first ≡ old.first)
  pub driven : HasDriven (region_count field.terms.setup.now.chart.cut) goal sweeps old.first old.pass.knows new.pass.knows new.driven

-- and of each member of a crew
pub record AreDriven (field : FieldValue) (goal sweeps : ℕ) (old new : List Member) : Type 0 where
  pub one_each : length new ≡ length old
  pub each : (k : ℕ) (d : Member) → k < length old → IsDriven field goal sweeps (slice_index_or old k d) (slice_index_or new k d)
