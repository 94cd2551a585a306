-- Without a speed record the recurrences are Daganzo's.
use Rattle.std.specs.Prelude.{if◌then◌else◌, map, sum_by}
use Rattle.std.specs.List.{range_with_len}
use Rattle.std.proofs.Common.{◌≡◌, ℕ, zero, suc, ◌*◌, ◌/◌, List, [], length, refl, sym, ap, ◌∙◌, arith}
use std.Path.{fun_ext}
use Rattle.step_plan.specs.Demand.{demand_at}
use Rattle.step_plan.specs.Speeds.{speed_at}
use Rattle.network_file.specs.Cells.{is_gate_at}
use Rattle.network_file.specs.Network.{Network}
use Rattle.network_file.specs.declared.connector.Connector.{Connector}
use Rattle.network_file.specs.declared.connector.Connector.TheVariants.{Link, Merge, Diverge}
use Rattle.run_modes.specs.RunMode.{IsReport}
use Rattle.run_modes.specs.Daganzo.{HasNoSpeeds, daganzo_carries, daganzo_enters, daganzo_leaves, daganzo_report, daganzo_rows, daganzo_sends, daganzo_step}
use Rattle.flow_model.specs.Flows.{entering, flow_of, inflow, leaving, outflow}
use Rattle.flow_model.specs.Limits.{sending_at}
use Rattle.flow_model.specs.Rows.{moved_row, next_row}
use Rattle.flow_model.specs.State.{next_rows, occupancy, row_at, state_at}
use Rattle.flow_model.specs.declared.row.Row.{Row}
use Rattle.region_step.specs.Recording.{note_of}
use Rattle.delay_report.specs.Report.{report_of, report_with}

-- at its own speed all that a cell holds comes to its end
own_speed : (net : Network) (i t : ℕ) → HasNoSpeeds net → speed_at net.plan i t ≡ (1, 1)
unfolding speed_at
own_speed net i t none = rw (none i) refl

all_arrive : (n : ℕ) → n * 1 / 1 ≡ n
all_arrive n = omega arith

sends-same : (net : Network) (t i n : ℕ) → HasNoSpeeds net → daganzo_sends net t i n ≡ sending_at net t i n
unfolding sending_at
sends-same net t i n none = rw (own_speed net i t none, all_arrive n) refl

carries-same : (net : Network) (t : ℕ) (n : ℕ → ℕ) (connector : Connector) → HasNoSpeeds net → daganzo_carries net t n connector ≡ flow_of net t n connector
unfolding flow_of
carries-same net t n (Link up down) none = rw (sends-same net t up (n up) none) refl
carries-same net t n (Merge up1 up2 down p1 p2) none = rw (sends-same net t up1 (n up1) none, sends-same net t up2 (n up2) none) refl
carries-same net t n (Diverge up down1 down2 b1 b2) none = rw (sends-same net t up (n up) none) refl

leaves-same : (net : Network) (t : ℕ) (n : ℕ → ℕ) (i : ℕ) → HasNoSpeeds net → daganzo_leaves net t n i ≡ outflow net t n i
unfolding outflow
leaves-same net t n i none =
    ap (λ (carries : Connector → _). sum_by (λ connector. leaving i connector (carries connector)) net.connectors) (fun_ext (λ connector. carries-same net t n connector none))

enters-same : (net : Network) (t : ℕ) (n : ℕ → ℕ) (i : ℕ) → HasNoSpeeds net → daganzo_enters net t n i ≡ inflow net t n i
unfolding inflow
enters-same net t n i none =
    ap (λ (carries : Connector → _). if is_gate_at net.cells i then demand_at net.plan i t else sum_by (λ connector. entering i connector (carries connector)) net.connectors)
    (fun_ext (λ connector. carries-same net t n connector none))

row-same : (net : Network) (t i : ℕ) (n : ℕ → ℕ) (row : Row) → HasNoSpeeds net → moved_row net i row (daganzo_enters net t n i) (daganzo_leaves net t n i) ≡ next_row net t n i row
unfolding next_row
row-same net t i n row none = rw (enters-same net t n i none, leaves-same net t n i none) refl

-- one step of the recurrences
pub daganzo_step-is : (net : Network) (t : ℕ) (rows : List Row) → HasNoSpeeds net → daganzo_step net t rows ≡ next_rows net t rows
unfolding next_rows
daganzo_step-is net t rows none =
    ap (λ (after : ℕ → Row). map after (range_with_len 0 (length net.cells))) (fun_ext (λ i. row-same net t i (occupancy rows) (row_at rows i) none))

-- and so each of them
pub daganzo_rows-are : (net : Network) (t : ℕ) → HasNoSpeeds net → daganzo_rows net t ≡ state_at net t
unfolding daganzo_rows state_at
daganzo_rows-are net zero none = refl
daganzo_rows-are net (suc t) none = daganzo_step-is net t (daganzo_rows net t) none ∙ ap (next_rows net t) (daganzo_rows-are net t none)

-- and so the report
pub daganzo_report-is : (net : Network) (every : ℕ) → HasNoSpeeds net → daganzo_report net every ≡ report_of net every
unfolding report_of
daganzo_report-is net every none =
    ap (λ (rows : ℕ → List Row). report_with net every (λ t i. note_of (row_at (rows t) i)) (rows net.steps)) (fun_ext (λ t. daganzo_rows-are net t none))

-- a report of the recurrences is one of Daganzo's where there is no speed record
pub report-by : (net : Network) (every : ℕ) (text : List ℕ) → text ≡ report_of net every → IsReport net every text
report-by net every text is = record { daganzo = λ none. is ∙ sym (daganzo_report-is net every none); extended = is }
