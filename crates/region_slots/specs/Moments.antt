-- What an observer is told of, and what it was told of the steps that were published.
use Rattle.std.specs.Prelude.{◌⊎◌, ℕ, ◌-◌, List}
use Rattle.std.specs.List.{Contains}
use Rattle.region_step.specs.Setup.{SetupValue}
use Rattle.border_rows.specs.declared.view.PublishedStep.{PublishedStep}
use Rattle.region_slots.specs.declared.shot.Shot.{Shot}
use Rattle.region_slots.specs.CutRun.{CutRun}

-- the run that a field is opened for
abbrev pub cut_run : SetupValue → CutRun
cut_run setup = record { net = setup.net; cut = setup.chart.cut; start = setup.start; every = setup.every }

-- a region of a run that stands at a step
pub record MomentValue : Type 0 where
  pub run : CutRun
  pub region : ℕ
  pub step : ℕ

-- the steps of all regions of a run, as a watcher has seen them who is about to take a snapshot
pub record SightValue : Type 0 where
  pub run : CutRun
  pub seen : List ℕ

-- the steps of all regions of a run, as a watcher has seen them who is done with its snapshot, and what came of that
pub record ShownValue : Type 0 where
  pub run : CutRun
  pub seen : List ℕ
  pub shot : Shot

-- each step that stands in the new log and not in the old one was told: its region as held at the step before, and as freed
-- at this one
abbrev pub AreTold : (held freed : (region step : ℕ) → Type 0) → (old new : List PublishedStep) → Type 0
AreTold held freed old new = (entry : PublishedStep) → Contains new entry → Contains old entry ⊎ (held entry.region (entry.step - 1) × freed entry.region entry.step)
