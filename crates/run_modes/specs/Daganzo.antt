-- Daganzo's recurrences, of a network in which each road always has its own speed (docs/MODEL.md, "One step"), and their report.
use Rattle.std.specs.Prelude.{◌≡◌, ℕ, zero, suc, ◌∷◌, List, [], length, map, min, sum_by, if◌then◌else◌}
use Rattle.std.specs.List.{range_with_len}
use Rattle.step_plan.specs.Capacity.{capacity_at}
use Rattle.step_plan.specs.Demand.{demand_at}
use Rattle.step_plan.specs.Green.{green_at}
use Rattle.step_plan.specs.Records.{records_at}
use Rattle.step_plan.specs.Turning.{shares_at}
use Rattle.network_file.specs.Cells.{is_gate_at}
use Rattle.network_file.specs.Network.{Network}
use Rattle.network_file.specs.declared.connector.Connector.{Connector}
use Rattle.network_file.specs.declared.connector.Connector.TheVariants.{Link, Merge, Diverge}
use Rattle.flow_model.specs.Flows.{diverge_carries, entering, leaving, link_carries, merge_carries}
use Rattle.flow_model.specs.Limits.{receiving_at}
use Rattle.flow_model.specs.Rows.{empty_row, moved_row}
use Rattle.flow_model.specs.State.{occupancy, row_at}
use Rattle.flow_model.specs.declared.carried.Flow.{Flow}
use Rattle.flow_model.specs.declared.row.Row.{Row}
use Rattle.region_step.specs.Recording.{note_of}
use Rattle.delay_report.specs.Report.{report_with}

-- the file has no speed record
abbrev pub HasNoSpeeds : Network → Type 0
HasNoSpeeds net = (i : ℕ) → (records_at net.plan i).speeds ≡ []

-- what cell i can send at step t where it holds n parts: all of them, or as many as can pass; nothing at red
abbrev pub daganzo_sends : Network → (t i n : ℕ) → ℕ
daganzo_sends net t i n = if green_at net.plan i t then min (capacity_at net.plan i t) n else 0

-- what a connector carries in step t where cell i holds n i
abbrev pub daganzo_carries : Network → (t : ℕ) → (n : ℕ → ℕ) → Connector → Flow
daganzo_carries net t n (Link up down) = link_carries (daganzo_sends net t up (n up)) (receiving_at net t down (n down))
daganzo_carries net t n (Merge up1 up2 down p1 p2) =
    merge_carries (daganzo_sends net t up1 (n up1)) (daganzo_sends net t up2 (n up2)) (receiving_at net t down (n down)) p1 p2
daganzo_carries net t n (Diverge up down1 down2 b1 b2) =
    let shares = shares_at net.plan up t (b1, b2) in
    diverge_carries (daganzo_sends net t up (n up)) (receiving_at net t down1 (n down1)) (receiving_at net t down2 (n down2)) shares.0 shares.1

-- what leaves cell i in step t
abbrev pub daganzo_leaves : Network → (t : ℕ) → (n : ℕ → ℕ) → (i : ℕ) → ℕ
daganzo_leaves net t n i = sum_by (λ connector. leaving i connector (daganzo_carries net t n connector)) net.connectors

-- what enters cell i in step t: the demand of a gate, and else what the connectors bring
abbrev pub daganzo_enters : Network → (t : ℕ) → (n : ℕ → ℕ) → (i : ℕ) → ℕ
daganzo_enters net t n i =
    if is_gate_at net.cells i then demand_at net.plan i t
    else sum_by (λ connector. entering i connector (daganzo_carries net t n connector)) net.connectors

-- all rows after step t
abbrev pub daganzo_step : Network → (t : ℕ) → List Row → List Row
daganzo_step net t rows =
    map (λ i. moved_row net i (row_at rows i) (daganzo_enters net t (occupancy rows) i) (daganzo_leaves net t (occupancy rows) i))
    (range_with_len 0 (length net.cells))

-- all rows at step t; at first each cell holds what the file says, and nothing is counted yet
unfoldable pub daganzo_rows : Network → (t : ℕ) → List Row
daganzo_rows net zero = map (λ cell. record empty_row { n = cell.first }) net.cells
daganzo_rows net (suc t) = daganzo_step net t (daganzo_rows net t)

-- the report of these rows, and of what is noted of them
abbrev pub daganzo_report : Network → (every : ℕ) → List ℕ
daganzo_report net every = report_with net every (λ t i. note_of (row_at (daganzo_rows net t) i)) (daganzo_rows net net.steps)
