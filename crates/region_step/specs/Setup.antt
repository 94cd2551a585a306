-- What regions are opened with, as contracts see it.
use Rattle.std.specs.Prelude.{ℕ}
use Rattle.network_file.specs.Network.{Network}
use Rattle.region_cut.specs.Chart.{ChartLists}
use Rattle.region_cut.specs.Layout.{LayoutValue}
use Rattle.region_step.specs.Start.{StartLists, zero_start}

pub record SetupValue : Type 0 where
  pub net : Network
  -- the chart of one of its cuttings
  pub chart : ChartLists
  -- where its regions start
  pub start : StartLists
  -- every how many steps they are recorded, 0 for never
  pub every : ℕ

-- a layout whose regions start so
abbrev pub setup_of : LayoutValue → StartLists → (every : ℕ) → SetupValue
setup_of layout start every = record { net = layout.net; chart = layout.chart; start = start; every = every }

-- a layout whose regions all start at step 0
abbrev pub zero_setup : LayoutValue → (every : ℕ) → SetupValue
zero_setup layout every = setup_of layout (zero_start layout.net layout.chart.cut) every
