-- What each kind of record adds to the draft, or the first fault that it has there.
use Rattle.std.specs.Prelude.{ℕ, ◌-◌, ◌==◌, List, Some, None, Result, Ok, is_none, is_some, nat_lt, not, length, ok_or}
use Rattle.std.specs.List.{list_any}
use Rattle.fixed_flow.specs.Limits.{most_parts, most_ratio}
use Rattle.step_plan.specs.Counts.{counts_of}
use Rattle.step_plan.specs.Green.{signal_of}
use Rattle.step_plan.specs.Limits.{most_steps}
use Rattle.record_fields.specs.Checks.{◌>>=◌, ◌>>◌, must}
use Rattle.network_file.specs.Draft.{Draft, with_entry}
use Rattle.record_fields.specs.Fields.{field, whole_within, range_within, ratio, weights, amount_within}
use Rattle.record_fields.specs.RecordKinds.{field_count, record_kind_of}
use Rattle.record_fields.specs.Regions.{region_in}
use Rattle.network_file.specs.CellFields.{new_name, known_cell, upstream, downstream}
use Rattle.network_file.specs.Cells.{is_exit_at, is_gate_at, is_road_at}
use Rattle.network_file.specs.Connectors.{diverges_from}
use Rattle.network_file.specs.Formats.{most_records}
use Rattle.network_file.specs.Limits.{most_capacity, most_regions, most_room}
use Rattle.network_file.specs.declared.cell.Kind.TheVariants as kind
use Rattle.record_fields.specs.declared.code.Code.{Code}
use Rattle.record_fields.specs.declared.code.Code.TheVariants.{BadKind, BadCount, TooMany, Repeated, WrongKind}
use Rattle.network_file.specs.declared.connector.Connector.TheVariants as connector
use Rattle.network_file.specs.declared.entry.Entry.TheVariants as says
use Rattle.step_plan.specs.declared.cell_record.CellRecord.TheVariants as of_cell
use Rattle.record_fields.specs.declared.record_kind.RecordKind.{RecordKind}
use Rattle.record_fields.specs.declared.record_kind.RecordKind.TheVariants.{Steps, Road, Gate, Exit, Link, Merge, Diverge, Signal, Limit, Demand, Turn, Region, Speed}

-- how many records the draft has of those that count together with this kind; `steps`, signals and regions have no such limit
abbrev pub taken_before : RecordKind → Draft → ℕ
taken_before Steps draft = 0
taken_before Road draft = length draft.cells
taken_before Gate draft = length draft.cells
taken_before Exit draft = length draft.cells
taken_before Link draft = length draft.connectors
taken_before Merge draft = length draft.connectors
taken_before Diverge draft = length draft.connectors
taken_before Signal draft = 0
taken_before Limit draft = (counts_of draft.plan).limits
taken_before Demand draft = (counts_of draft.plan).demands
taken_before Turn draft = (counts_of draft.plan).turns
taken_before Region draft = 0
taken_before Speed draft = (counts_of draft.plan).speeds

unfoldable pub take_steps : Draft → List (List ℕ) → Result Draft Code
take_steps draft fields = do
  must (is_none draft.steps) Repeated
  steps ← whole_within 1 most_steps (field fields 1)
  Ok (with_entry draft (says.Steps steps))

unfoldable pub take_road : Draft → List (List ℕ) → Result Draft Code
take_road draft fields = do
  name ← new_name draft.cells (field fields 1)
  room ← amount_within most_room (field fields 2)
  capacity ← amount_within most_capacity (field fields 3)
  (num, den) ← ratio most_ratio (field fields 4) (field fields 5)
  first ← amount_within room (field fields 6)
  Ok (with_entry draft (says.Cell (record { name = name; kind = kind.Road room num den; first = first }) capacity))

unfoldable pub take_gate : Draft → List (List ℕ) → Result Draft Code
take_gate draft fields = do
  name ← new_name draft.cells (field fields 1)
  capacity ← amount_within most_capacity (field fields 2)
  first ← amount_within most_parts (field fields 3)
  Ok (with_entry draft (says.Cell (record { name = name; kind = kind.Gate; first = first }) capacity))

unfoldable pub take_exit : Draft → List (List ℕ) → Result Draft Code
take_exit draft fields = do
  name ← new_name draft.cells (field fields 1)
  capacity ← amount_within most_capacity (field fields 2)
  Ok (with_entry draft (says.Cell (record { name = name; kind = kind.Exit; first = 0 }) capacity))

unfoldable pub take_link : Draft → List (List ℕ) → Result Draft Code
take_link draft fields = do
  up ← upstream draft.cells draft.connectors None (field fields 1)
  down ← downstream draft.cells draft.connectors None (field fields 2)
  Ok (with_entry draft (says.Connector (connector.Link up down)))

unfoldable pub take_merge : Draft → List (List ℕ) → Result Draft Code
take_merge draft fields = do
  up1 ← upstream draft.cells draft.connectors None (field fields 1)
  up2 ← upstream draft.cells draft.connectors (Some up1) (field fields 2)
  down ← downstream draft.cells draft.connectors None (field fields 3)
  (p1, p2) ← weights most_ratio (field fields 4) (field fields 5)
  Ok (with_entry draft (says.Connector (connector.Merge up1 up2 down p1 p2)))

unfoldable pub take_diverge : Draft → List (List ℕ) → Result Draft Code
take_diverge draft fields = do
  up ← upstream draft.cells draft.connectors None (field fields 1)
  down1 ← downstream draft.cells draft.connectors None (field fields 2)
  down2 ← downstream draft.cells draft.connectors (Some down1) (field fields 3)
  (b1, b2) ← weights most_ratio (field fields 4) (field fields 5)
  Ok (with_entry draft (says.Connector (connector.Diverge up down1 down2 b1 b2)))

unfoldable pub take_signal : Draft → List (List ℕ) → Result Draft Code
take_signal draft fields = do
  cell ← known_cell draft.cells (field fields 1)
  must (not (is_exit_at draft.cells cell)) WrongKind
  must (not (is_some (signal_of draft.plan cell))) Repeated
  cycle ← whole_within 1 most_steps (field fields 2)
  offset ← whole_within 0 (cycle - 1) (field fields 3)
  (from, to) ← range_within cycle (field fields 4) (field fields 5)
  Ok (with_entry draft (says.Record cell (of_cell.Signal (record { cycle = cycle; offset = offset; from = from; to = to }))))

unfoldable pub take_limit : Draft → List (List ℕ) → Result Draft Code
take_limit draft fields = do
  cell ← known_cell draft.cells (field fields 1)
  (from, to) ← range_within most_steps (field fields 2) (field fields 3)
  capacity ← amount_within most_capacity (field fields 4)
  Ok (with_entry draft (says.Record cell (of_cell.Limit (record { from = from; to = to; capacity = capacity }))))

unfoldable pub take_demand : Draft → List (List ℕ) → Result Draft Code
take_demand draft fields = do
  gate ← known_cell draft.cells (field fields 1)
  must (is_gate_at draft.cells gate) WrongKind
  (from, to) ← range_within most_steps (field fields 2) (field fields 3)
  amount ← amount_within most_parts (field fields 4)
  Ok (with_entry draft (says.Record gate (of_cell.Demand (record { from = from; to = to; amount = amount }))))

unfoldable pub take_turn : Draft → List (List ℕ) → Result Draft Code
take_turn draft fields = do
  cell ← known_cell draft.cells (field fields 1)
  must (list_any (diverges_from cell) draft.connectors) WrongKind
  (from, to) ← range_within most_steps (field fields 2) (field fields 3)
  (b1, b2) ← weights most_ratio (field fields 4) (field fields 5)
  Ok (with_entry draft (says.Record cell (of_cell.Turn (record { from = from; to = to; b1 = b1; b2 = b2 }))))

unfoldable pub take_region : Draft → List (List ℕ) → Result Draft Code
take_region draft fields = do
  cell ← known_cell draft.cells (field fields 1)
  must (is_none (region_in draft.regions cell)) Repeated
  number ← whole_within 0 (most_regions - 1) (field fields 2)
  Ok (with_entry draft (says.Region (record { cell = cell; number = number })))

unfoldable pub take_speed : Draft → List (List ℕ) → Result Draft Code
take_speed draft fields = do
  road ← known_cell draft.cells (field fields 1)
  must (is_road_at draft.cells road) WrongKind
  (from, to) ← range_within most_steps (field fields 2) (field fields 3)
  (num, den) ← ratio most_ratio (field fields 4) (field fields 5)
  Ok (with_entry draft (says.Record road (of_cell.Speed (record { from = from; to = to; num = num; den = den }))))

abbrev pub take_kind : RecordKind → Draft → List (List ℕ) → Result Draft Code
take_kind Steps = take_steps
take_kind Road = take_road
take_kind Gate = take_gate
take_kind Exit = take_exit
take_kind Link = take_link
take_kind Merge = take_merge
take_kind Diverge = take_diverge
take_kind Signal = take_signal
take_kind Limit = take_limit
take_kind Demand = take_demand
take_kind Turn = take_turn
take_kind Region = take_region
take_kind Speed = take_speed

-- the draft with one more record
unfoldable pub take_record : Draft → List (List ℕ) → Result Draft Code
take_record draft fields = do
  kind ← ok_or (record_kind_of draft.format (field fields 0)) BadKind
  must (length fields == field_count kind) BadCount
  must (nat_lt (taken_before kind draft) (most_records draft.format)) TooMany
  take_kind kind draft fields
