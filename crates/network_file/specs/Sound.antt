-- What holds of every network, and of a draft of one at each record.
use Rattle.std.specs.Prelude.{◌≡◌, ℕ, ◌<◌, ◌≤◌, ◌⊎◌, List, [], length, map, eqb, bytes_eq, All, count_by, IfSome, true, false, ⊤, Some, ◌∷◌}
use Rattle.std.specs.List.{IsDistinct, list_any}
use Rattle.fixed_flow.specs.Limits.{most_parts, most_ratio}
use Rattle.step_plan.specs.Counts.{counts_of}
use Rattle.step_plan.specs.Records.{PlannedCell, PlanRecords, planned_at, records_at}
use Rattle.step_plan.specs.Sound.{IsSoundSpeed, IsSoundTurn}
use Rattle.step_plan.specs.Limits.{most_steps}
use Rattle.step_plan.specs.declared.plan_counts.PlanCounts.{PlanCounts}
use Rattle.network_file.specs.Cells.{is_exit_at, is_gate_at, is_road_at}
use Rattle.network_file.specs.Connectors.{diverges_from, upstream_of, downstream_of, leads_into, leads_out_of}
use Rattle.network_file.specs.Cutting.{IsCutting}
use Rattle.network_file.specs.Formats.{most_records}
use Rattle.network_file.specs.Limits.{most_capacity, most_room, most_regions}
use Rattle.network_file.specs.declared.cell.Cell.{Cell}
use Rattle.network_file.specs.declared.cell.Kind.{Kind}
use Rattle.network_file.specs.declared.cell.Kind.TheVariants.{Road, Gate, Exit}
use Rattle.network_file.specs.declared.connector.Connector.{Connector}
use Rattle.network_file.specs.Network.{Network, load_of}
use Rattle.network_file.specs.Draft.{Draft}
use Rattle.network_file.specs.declared.connector.Connector.TheVariants.{Link, Merge, Diverge}

-- there are three
pub record IsFormat (format : ℕ) : Type 0 where
  pub first : 1 ≤ format
  pub last : format ≤ 3

-- the priorities of a merge, the turning shares of a diverge
abbrev pub weights_of : Connector → List ℕ
weights_of (Link up down) = []
weights_of (Merge up1 up2 down p1 p2) = p1 ∷ p2 ∷ []
weights_of (Diverge up down1 down2 b1 b2) = b1 ∷ b2 ∷ []

-- a road within the ranges of the format, which starts within its room
pub record IsSoundRoad (room num den first : ℕ) : Type 0 where
  pub limit : room ≤ most_room
  pub positive : 1 ≤ num
  pub ratio : num ≤ den
  pub small : den ≤ most_ratio
  pub within : first ≤ room

-- a cell of this kind within the ranges of the format: a road starts within its room, an exit empty
abbrev pub IsSoundKind : Kind → (first : ℕ) → Type 0
IsSoundKind (Road room num den) first = IsSoundRoad room num den first
IsSoundKind Gate first = ⊤
IsSoundKind Exit first = first ≡ 0

-- a cell within the ranges of the format
pub record IsSoundCell (cell : Cell) : Type 0 where
  pub kind : IsSoundKind cell.kind cell.first
  pub first : cell.first ≤ most_parts

-- a connector between cells that are there: out of no exit and into no gate
pub record IsSoundConnector (cells : List Cell) (connector : Connector) : Type 0 where
  pub up : All (λ i. (i < length cells) × (is_exit_at cells i ≡ false)) (upstream_of connector)
  pub down : All (λ i. (i < length cells) × (is_gate_at cells i ≡ false)) (downstream_of connector)
  -- its cells upstream differ, and so do its cells downstream
  pub up_apart : IsDistinct eqb (upstream_of connector)
  pub down_apart : IsDistinct eqb (downstream_of connector)
  pub weights : All (λ weight. (1 ≤ weight) × (weight ≤ most_ratio)) (weights_of connector)

-- what a plan says of cell i is within the ranges of the format, and what a cell of its kind may have: an exit has no signal,
-- a gate alone has demands, and a road alone has speeds
pub record IsPlannedCell (cells : List Cell) (i : ℕ) (planned : PlannedCell) : Type 0 where
  pub capacity : planned.capacity ≤ most_capacity
  pub signal : IfSome planned.records.signal (λ signal. is_exit_at cells i ≡ false)
  pub limits : All (λ limit. (limit.to ≤ most_steps) × (limit.capacity ≤ most_capacity)) planned.records.limits
  pub demands : All (λ demand. (is_gate_at cells i ≡ true) × (demand.to ≤ most_steps)) planned.records.demands
  pub turns : All (λ turn. (turn.to ≤ most_steps) × IsSoundTurn turn) planned.records.turns
  pub speeds : All (λ speed. (is_road_at cells i ≡ true) × (speed.to ≤ most_steps) × IsSoundSpeed speed) planned.records.speeds

-- no more records of a kind than the format allows
pub record AreFew (format : ℕ) (counts : PlanCounts) : Type 0 where
  pub limits : counts.limits ≤ most_records format
  pub demands : counts.demands ≤ most_records format
  pub turns : counts.turns ≤ most_records format
  pub speeds : counts.speeds ≤ most_records format
  -- format 1 has no turns
  pub no_turns : format ≡ 1 → counts.turns ≡ 0
  -- format 3 alone has speeds
  pub no_speeds : format ≤ 2 → counts.speeds ≡ 0

-- the plan is of these cells, within the ranges of the format
pub record IsPlanOf (format : ℕ) (cells : List Cell) (plan : PlanRecords) : Type 0 where
  pub one_each : length plan.cells ≡ length cells
  pub planned : (i : ℕ) → i < length cells → IsPlannedCell cells i (planned_at plan i)
  pub few : AreFew format (counts_of plan)

-- what holds of the parts of a network, and of a draft of one at each record
pub record HasSoundParts (format : ℕ) (cells : List Cell) (connectors : List Connector) (plan : PlanRecords) : Type 0 where
  pub few_cells : length cells ≤ most_records format
  pub few_connectors : length connectors ≤ most_records format
  pub sound_cells : All IsSoundCell cells
  pub names : IsDistinct bytes_eq (map (λ cell. cell.name) cells)
  pub sound_connectors : All (IsSoundConnector cells) connectors
  -- each cell has at most one connector that leads out of it, and at most one that leads into it
  pub one_out : (i : ℕ) → count_by (leads_out_of i) connectors ≤ 1
  pub one_in : (i : ℕ) → count_by (leads_into i) connectors ≤ 1
  pub planned : IsPlanOf format cells plan
  -- a diverge leads out of each cell that has turns
  pub turns_diverge : (i : ℕ) → i < length cells → All (λ turn. list_any (diverges_from i) connectors ≡ true) (records_at plan i).turns

-- what holds of every network
pub record IsNetwork (net : Network) : Type 0 where
  pub format : IsFormat net.format
  pub some_steps : 1 ≤ net.steps
  pub few_steps : net.steps ≤ most_steps
  pub some_cells : 1 ≤ length net.cells
  pub sound : HasSoundParts net.format net.cells net.connectors net.plan
  pub regions : (net.regions ≡ []) ⊎ IsCutting (length net.cells) net.regions
  -- format 1 has no regions
  pub no_regions : net.format ≡ 1 → net.regions ≡ []
  pub load : load_of net.cells net.plan net.steps ≤ most_parts

-- what holds of a draft at each record
pub record IsSoundDraft (draft : Draft) : Type 0 where
  pub format : IsFormat draft.format
  pub some_steps : (steps : ℕ) → draft.steps ≡ Some steps → 1 ≤ steps
  pub few_steps : (steps : ℕ) → draft.steps ≡ Some steps → steps ≤ most_steps
  pub sound : HasSoundParts draft.format draft.cells draft.connectors draft.plan
  pub regions : All (λ region. (region.cell < length draft.cells) × (region.number < most_regions)) draft.regions
  -- format 1 has no regions
  pub no_regions : draft.format ≡ 1 → draft.regions ≡ []
