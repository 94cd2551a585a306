-- What comes of a drive with one pass.
use Rattle.std.specs.Prelude.{◌≡◌, ◌≢◌, ◌↔◌, ℕ, zero, suc, Bool, ◌+◌, ◌<◌, ◌≤◌, IsTrue, List, [], ◌++◌}
use Rattle.border_rows.specs.declared.view.View.{View}
use Rattle.worker_claim.specs.Driving.{HasSwept, round_from}
use Rattle.worker_claim.specs.declared.driven.Driven.{Driven}

-- the regions of so many sweeps, in the order of their turns
abbrev pub rounds_from : (count first sweeps : ℕ) → List ℕ
rounds_from count first zero = []
rounds_from count first (suc sweeps) = rounds_from count first sweeps ++ round_from count first

-- the last of so many sweeps, after which it tells whether all its turns found their region at goal or past it
pub record IsLast (count goal made : ℕ) (old new : View) (all_ended : Bool) : Type 0 where
  pub sweeps : ℕ
  pub one_less : sweeps + 1 ≡ made
  pub before : View
  pub earlier : Driven
  pub since : HasSwept count goal sweeps old before earlier
  pub driven : Driven
  pub swept : HasSwept count goal 1 before new driven
  pub same : all_ended ≡ driven.all
  pub all : IsTrue driven.all ↔ (driven.ended ≡ count)

-- at most so many sweeps from the first region on, and fewer only where all turns of one found their region at goal or past
-- it
abbrev pub HasDriven : (count goal sweeps first : ℕ) (old new : View) → Driven → Type 0
HasDriven count goal sweeps first old new driven =
    (made : ℕ) × (made ≤ sweeps) × (made < sweeps → IsTrue driven.all) × HasSwept count goal made old new driven
    × (new.tried ≡ old.tried ++ rounds_from count first made) × (made ≢ 0 → IsLast count goal made old new driven.all)
