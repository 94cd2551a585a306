-- What contracts see of a run.
use Rattle.std.specs.Prelude.{◌≡◌, ℕ, ◌+◌, ◌<◌, ◌≤◌, List, replicate, slice_index, ◌⊎◌}
use Rattle.std.specs.List.{Contains}
use Rattle.region_cut.specs.Cuttings.{region_count}
use Rattle.border_rows.specs.declared.view.PublishedStep.{PublishedStep}
use Rattle.border_rows.specs.declared.view.Terms.{Terms}
use Rattle.border_rows.specs.declared.view.View.{View}
use Rattle.worker_claim.specs.Driving.{AllReach}
use Rattle.worker_claim.specs.declared.member.Member.{Member}

-- what it was opened with, and what its pass knows
pub record RunValue : Type 0 where
  pub terms : Terms
  pub knows : View

-- a log that has each step which so many regions make from where they start to a goal
abbrev pub HasLogged : (count : ℕ) → (starts : List ℕ) → (goal : ℕ) → List PublishedStep → Type 0
HasLogged count starts goal log =
    (r s : ℕ) → r < count → slice_index starts r ≤ s → s < goal → Contains log (record { region = r; step = s + 1 })

-- these steps are all the goal, for any goal that all regions have come to and that none started or went past
abbrev pub AreWhereTheyCame : RunValue → (steps : List ℕ) → Type 0
AreWhereTheyCame run steps =
    (goal : ℕ) → AllReach (region_count run.terms.setup.now.chart.cut) goal run.knows → run.knows.reach ≤ goal →
    ((r : ℕ) → r < region_count run.terms.setup.now.chart.cut → slice_index run.terms.setup.now.start.steps r ≤ goal) →
    steps ≡ replicate (region_count run.terms.setup.now.chart.cut) goal

-- and up to such a goal its log is whole
abbrev pub IsLoggedWhereTheyCame : RunValue → Type 0
IsLoggedWhereTheyCame run =
    (goal : ℕ) → AllReach (region_count run.terms.setup.now.chart.cut) goal run.knows → HasLogged (region_count run.terms.setup.now.chart.cut) run.terms.setup.now.start.steps goal run.knows.log

-- each step of a log stands in another one or in that of a member
abbrev pub AreFrom : List PublishedStep → List Member → (log : List PublishedStep) → Type 0
AreFrom own members log = (entry : PublishedStep) → Contains log entry → Contains own entry ⊎ ((member : Member) × Contains members member × Contains member.pass.knows.log entry)
