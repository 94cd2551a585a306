-- What comes of the turns of helpers, which hand the numbers of regions to each other.
use Rattle.std.specs.Prelude.{◌≡◌, ◌≢◌, ℕ, ◌+◌, ◌*◌, ◌<◌, ◌≤◌, IsTrue, List, length, slice_index, slice_index_or}
use Rattle.std.specs.List.{sum}
use Rattle.region_cut.specs.Cuttings.{region_count}
use Rattle.border_rows.specs.declared.view.View.{View}
use Rattle.region_slots.specs.FieldView.{FieldValue, IsPassOf}
use Rattle.region_slots.specs.Turning.{IsWithin}
use Rattle.worker_claim.specs.Driving.{AllReach, tries_of}
use Rattle.worker_claim.specs.Members.{IsMemberOf}
use Rattle.worker_claim.specs.Turns.{turns_of}
use Rattle.worker_claim.specs.declared.driven.Driven.{Driven}
use Rattle.worker_claim.specs.declared.helper.Helper.{Helper}

-- a helper with a member of the field, and a nest made for so many regions as the field has
pub record IsHelperOf (field : FieldValue) (helper : Helper) : Type 0 where
  pub member : IsMemberOf field helper.member
  pub nest : helper.nest.regions ≡ region_count field.terms.setup.now.chart.cut

abbrev pub AreHelpersOf : FieldValue → List Helper → Type 0
AreHelpersOf field helpers = (k : ℕ) (d : Helper) → k < length helpers → IsHelperOf field (slice_index_or helpers k d)

-- turns on any of so many regions, at most as many as a budget has, and fewer only where all turns of a sweep found their
-- region at goal or past it
pub record HasHelped (count goal budget : ℕ) (old new : View) (driven : Driven) : Type 0 where
  pub keeps : IsWithin old new goal
  pub tried : tries_of new ≡ tries_of old + turns_of driven
  pub moved : length new.log ≡ length old.log + driven.moved
  pub held : sum new.held_found ≡ sum old.held_found + driven.held
  pub behind : new.short_found ≡ old.short_found + driven.behind
  pub ended : driven.ended ≢ 0 → (r : ℕ) × (r < count) × (goal ≤ slice_index new.seen r)
  pub within : turns_of driven ≤ budget
  pub stops : turns_of driven < budget → IsTrue driven.all
  pub all : IsTrue driven.all → (count ≤ driven.ended) × AllReach count goal new

-- the same helper, with a pass that may know more
pub record IsKept (field : FieldValue) (old new : Helper) : Type 0 where
  pub belongs : IsPassOf field new.member.pass
  pub id : new.member.pass.id ≡ old.member.pass.id
  pub first : new.member.first ≡ old.member.first
  pub nest : new.nest ≡ old.nest

-- what so many sweeps' worth of turns leave of a helper
pub record IsHelped (field : FieldValue) (goal sweeps : ℕ) (old new : Helper) : Type 0 where
  pub kept : IsKept field old new
  pub helped : HasHelped (region_count field.terms.setup.now.chart.cut) goal (sweeps * region_count field.terms.setup.now.chart.cut) old.member.pass.knows new.member.pass.knows new.member.driven

-- and of each helper of a crew
pub record AreHelped (field : FieldValue) (goal sweeps : ℕ) (old new : List Helper) : Type 0 where
  pub one_each : length new ≡ length old
  pub each : (k : ℕ) (d : Helper) → k < length old → IsHelped field goal sweeps (slice_index_or old k d) (slice_index_or new k d)
