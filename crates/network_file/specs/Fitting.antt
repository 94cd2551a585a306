-- Which records a draft can take.
use Rattle.std.specs.Prelude.{◌≡◌, ℕ, ◌<◌, ◌≤◌, length, All, None, is_none, is_some, true, false}
use Rattle.std.specs.List.{list_any}
use Rattle.step_plan.specs.Counts.{counts_of}
use Rattle.step_plan.specs.Green.{signal_of}
use Rattle.step_plan.specs.Limits.{most_steps}
use Rattle.step_plan.specs.Records.{DemandRecord, LimitRecord, SpeedRecord, TurnRecord}
use Rattle.step_plan.specs.Sound.{IsSoundRecord}
use Rattle.step_plan.specs.declared.cell_record.CellRecord.{CellRecord}
use Rattle.step_plan.specs.declared.cell_record.CellRecord.TheVariants.{Signal, Limit, Demand, Turn, Speed}
use Rattle.network_file.specs.Cells.{cell_named, is_exit_at, is_gate_at, is_road_at}
use Rattle.network_file.specs.Connectors.{diverges_from, downstream_of, leads_into, leads_out_of, upstream_of}
use Rattle.network_file.specs.Draft.{Draft}
use Rattle.network_file.specs.Formats.{most_records}
use Rattle.network_file.specs.Sound.{IsSoundCell, IsSoundConnector}
use Rattle.record_fields.specs.Regions.{region_in}
use Rattle.network_file.specs.declared.cell.Cell.{Cell}
use Rattle.network_file.specs.declared.connector.Connector.{Connector}
use Rattle.network_file.specs.Limits.{most_capacity, most_regions}
use Rattle.network_file.specs.declared.entry.Entry.{Entry}
use Rattle.network_file.specs.declared.entry.Entry.TheVariants as says
use Rattle.record_fields.specs.declared.region_record.RegionRecord.{RegionRecord}

-- the number of steps, where no record said it yet
pub record FitsSteps (draft : Draft) (steps : ℕ) : Type 0 where
  pub first : is_none draft.steps ≡ true
  pub some : 1 ≤ steps
  pub few : steps ≤ most_steps

-- a cell of this capacity that the draft can take
pub record FitsCell (draft : Draft) (cell : Cell) (capacity : ℕ) : Type 0 where
  pub room : length draft.cells < most_records draft.format
  pub fresh : cell_named draft.cells cell.name ≡ None
  pub sound : IsSoundCell cell
  pub low : capacity ≤ most_capacity

-- a connector that the draft can take: no other leads out of its cells upstream, and none into those downstream
pub record FitsConnector (draft : Draft) (connector : Connector) : Type 0 where
  pub room : length draft.connectors < most_records draft.format
  pub sound : IsSoundConnector draft.cells connector
  pub up_free : All (λ up. list_any (leads_out_of up) draft.connectors ≡ false) (upstream_of connector)
  pub down_free : All (λ down. list_any (leads_into down) draft.connectors ≡ false) (downstream_of connector)

-- a signal, at a cell that sends and has none yet
pub record FitsSignal (draft : Draft) (cell : ℕ) : Type 0 where
  pub sends : is_exit_at draft.cells cell ≡ false
  pub first : is_some (signal_of draft.plan cell) ≡ false

-- a capacity in some steps
pub record FitsLimit (draft : Draft) (limit : LimitRecord) : Type 0 where
  pub room : (counts_of draft.plan).limits < most_records draft.format
  pub in_time : limit.to ≤ most_steps
  pub low : limit.capacity ≤ most_capacity

-- what enters a gate
pub record FitsDemand (draft : Draft) (cell : ℕ) (demand : DemandRecord) : Type 0 where
  pub room : (counts_of draft.plan).demands < most_records draft.format
  pub gate : is_gate_at draft.cells cell ≡ true
  pub in_time : demand.to ≤ most_steps

-- turning shares of a diverge
pub record FitsTurn (draft : Draft) (cell : ℕ) (turn : TurnRecord) : Type 0 where
  pub second_format : 2 ≤ draft.format
  pub room : (counts_of draft.plan).turns < most_records draft.format
  pub diverges : list_any (diverges_from cell) draft.connectors ≡ true
  pub in_time : turn.to ≤ most_steps

-- the speed in a road
pub record FitsSpeed (draft : Draft) (cell : ℕ) (speed : SpeedRecord) : Type 0 where
  pub third_format : 3 ≤ draft.format
  pub room : (counts_of draft.plan).speeds < most_records draft.format
  pub road : is_road_at draft.cells cell ≡ true
  pub in_time : speed.to ≤ most_steps

-- a record that the cell may have by its kind, of which the draft has room for one more
abbrev pub FitsKind : Draft → (cell : ℕ) → CellRecord → Type 0
FitsKind draft cell (Signal signal) = FitsSignal draft cell
FitsKind draft cell (Limit limit) = FitsLimit draft limit
FitsKind draft cell (Demand demand) = FitsDemand draft cell demand
FitsKind draft cell (Turn turn) = FitsTurn draft cell turn
FitsKind draft cell (Speed speed) = FitsSpeed draft cell speed

-- a record of the plan for a cell that is there
pub record FitsRecord (draft : Draft) (cell : ℕ) (one : CellRecord) : Type 0 where
  pub there : cell < length draft.cells
  pub sound : IsSoundRecord one
  pub kind : FitsKind draft cell one

-- the region of a cell that has none yet
pub record FitsRegion (draft : Draft) (region : RegionRecord) : Type 0 where
  pub second_format : 2 ≤ draft.format
  pub there : region.cell < length draft.cells
  pub first : region_in draft.regions region.cell ≡ None
  pub few : region.number < most_regions

-- the draft can take what a record says
abbrev pub FitsEntry : Draft → Entry → Type 0
FitsEntry draft (says.Steps steps) = FitsSteps draft steps
FitsEntry draft (says.Cell cell capacity) = FitsCell draft cell capacity
FitsEntry draft (says.Connector connector) = FitsConnector draft connector
FitsEntry draft (says.Record cell one) = FitsRecord draft cell one
FitsEntry draft (says.Region region) = FitsRegion draft region
