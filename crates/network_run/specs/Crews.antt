-- The crew of a run: its members, and how one joins and leaves.
use Rattle.std.specs.Prelude.{◌≡◌, ℕ, ◌+◌, ◌<◌, ◌≤◌, All, List, [], ◌∷◌, ◌++◌, max, slice_index}
use Rattle.region_cut.specs.Cuttings.{region_count}
use Rattle.border_rows.specs.declared.view.Terms.{Terms}
use Rattle.border_rows.specs.declared.view.View.{View}
use Rattle.region_slots.specs.FieldView.{FieldValue, IsPassOf, PassValue}
use Rattle.number_deques.specs.Nests.{NestValue}
use Rattle.worker_claim.specs.declared.helper.Helper.{Helper}
use Rattle.worker_claim.specs.declared.member.Member.{Member}
use Rattle.network_run.specs.Enlisted.{IsEnlisted}

-- a crew: how many workers it has, for how many regions, and those of them that are members of the field
pub record CrewValue : Type 0 where
  pub workers : ℕ
  pub regions : ℕ
  pub members : List Member

-- none is a member
abbrev pub idle : (workers regions : ℕ) → CrewValue
idle workers regions = record { workers = workers; regions = regions; members = [] }

-- nests for so many workers and regions
abbrev pub AreNestsFor : (workers regions : ℕ) → List NestValue → Type 0
AreNestsFor workers regions nests = All (λ nest. nest ≡ record { members = workers; regions = regions }) nests

-- helpers with such nests
abbrev pub AreHelpersFor : (workers regions : ℕ) → List Helper → Type 0
AreHelpersFor workers regions helpers = All (λ helper. helper.nest ≡ record { members = workers; regions = regions }) helpers

-- a view has seen no region past both its start and the view's reach
abbrev pub IsReached : Terms → View → Type 0
IsReached terms view = (r : ℕ) → r < region_count terms.setup.now.chart.cut → slice_index view.seen r ≤ max (slice_index terms.setup.now.start.steps r) view.reach

-- one worker more is a member, with a seat that was shared off a pass
pub record HasJoined (field : FieldValue) (old new : PassValue) (before after : CrewValue) : Type 0 where
  pub member : Member
  pub members : after ≡ record before { members = before.members ++ member ∷ [] }
  pub belongs : IsPassOf field new
  pub share : new.knows.share + 1 ≡ old.knows.share
  pub seen : new.knows.seen ≡ old.knows.seen
  pub reach : new.knows.reach ≡ old.knows.reach
  pub log : new.knows.log ≡ old.knows.log
  pub nothing : member.pass.knows.log ≡ []
  pub enlisted : (most : ℕ) → old.knows.reach ≤ most → IsEnlisted field most member

-- the last of the members is none any more, and a pass has its seat
pub record HasLeft (field : FieldValue) (old new : PassValue) (before after : CrewValue) : Type 0 where
  pub member : Member
  pub members : before ≡ record after { members = after.members ++ member ∷ [] }
  pub belongs : IsPassOf field new
  pub share : new.knows.share ≡ old.knows.share + member.pass.knows.share
  pub later : (r : ℕ) → slice_index old.knows.seen r ≤ slice_index new.knows.seen r
  pub reach : new.knows.reach ≡ max old.knows.reach member.pass.knows.reach
  pub log : new.knows.log ≡ old.knows.log ++ member.pass.knows.log
  pub reached : new.knows.share ≡ field.terms.seats → IsReached field.terms new.knows
