-- The members of a run.
use Rattle.std.specs.Prelude.{◌≡◌, ◌⊎◌, ℕ, ◌≤◌, Bool, List, All, IsTrue}
use Rattle.std.specs.List.{list_any}
use Rattle.region_slots.specs.FieldView.{FieldValue}
use Rattle.worker_claim.specs.Members.{IsMemberOf}
use Rattle.worker_claim.specs.declared.member.Member.{Member}

-- a member of the field with one seat, which has published nothing past a goal
pub record IsEnlisted (field : FieldValue) (goal : ℕ) (member : Member) : Type 0 where
  pub belongs : IsMemberOf field member
  pub share : member.pass.knows.share ≡ 1
  pub reach : member.pass.knows.reach ≤ goal

-- all of them are
abbrev pub AreEnlisted : FieldValue → (goal : ℕ) → List Member → Type 0
AreEnlisted field goal members = All (IsEnlisted field goal) members

-- whether one has found all regions at the goal
abbrev pub is_some_done : List Member → Bool
is_some_done members = list_any (λ member. member.driven.all) members

-- one has, or none has moved a region
abbrev pub IsOver : List Member → Type 0
IsOver members = IsTrue (is_some_done members) ⊎ All (λ member. member.driven.moved ≡ 0) members
