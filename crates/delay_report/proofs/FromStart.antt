-- What the regions of a start come to: with no recorded steps the report from it, and from a true start that of the
-- plain recurrences.
use Rattle.std.specs.Prelude.{slice_index}
use Rattle.std.specs.List.{range_with_len}
use Rattle.std.proofs.Common.{◌≡◌, ℕ, ◌≤◌, inl, inr, List, [], ◌++◌, length, append-nil, refl, sym, ap, ◌∙◌, arith}
use Rattle.std.proofs.lemmas.Bool.{cases_eq}
use Rattle.std.proofs.lemmas.List.{get_or-map, length-map}
use Rattle.std.proofs.lemmas.List.FromFn.{fill_by_all, length-map-range_with_len}
use Rattle.network_file.specs.Network.{Network}
use Rattle.network_file.specs.Sound.{IsNetwork}
use Rattle.flow_model.specs.Rows.{empty_row}
use Rattle.flow_model.specs.State.{row_at, state_at}
use Rattle.flow_model.specs.declared.row.Row.{Row}
use Rattle.flow_model.proofs.States.{length-state_at}
use Rattle.region_cut.specs.Cuttings.{region_at}
use Rattle.region_cut.specs.LawfulSteps.{AreLawful}
use Rattle.region_cut.proofs.Membership.{region_at-there}
use Rattle.region_cut.proofs.Ranges.{Contains-range}
use Rattle.region_step.specs.Grid.{grid_row}
use Rattle.region_step.specs.Recording.{note_of, recorded}
use Rattle.region_step.specs.Noting.{notes_of}
use Rattle.region_step.specs.Setup.{SetupValue}
use Rattle.region_step.specs.Start.{StartLists}
use Rattle.region_step.specs.Starting.{IsTrueStart}
use Rattle.region_step.specs.declared.note.Note.{Note}
use Rattle.region_step.proofs.Grids.{are_the_recurrences}
use Rattle.region_step.proofs.Lists.{map_same}
use Rattle.delay_report.specs.FromStart.{IsRecordedFromZero, grid_note, last_rows, report_from}
use Rattle.delay_report.specs.Notes.{all_notes}
use Rattle.delay_report.specs.Report.{cell_lines, note_lines, report_line, report_of, report_with, total_line}
use Rattle.delay_report.proofs.Lines.{note_lines-none, note_lines-same}
use Rattle.delay_report.proofs.RecordedSteps.{recorded-none}

pub length-last_rows : (net : Network) (cut : List ℕ) (start : StartLists) → length (last_rows net cut start) ≡ length net.cells
unfolding last_rows
length-last_rows net cut start = length-map-range_with_len (grid_row net cut start net.steps) 0 (length net.cells)

-- from a true start with lawful steps all cells come to the rows of the plain recurrences
pub last_rows-true : (net : Network) (cut : List ℕ) (start : StartLists) → IsNetwork net → AreLawful net cut start.steps → IsTrueStart net cut start →
    last_rows net cut start ≡ state_at net net.steps
unfolding last_rows
last_rows-true net cut start sound lawful true_start =
    let cells = length net.cells in
    map_same (grid_row net cut start net.steps) (row_at (state_at net net.steps)) (range_with_len 0 cells)
    (λ i has.
    let begun : slice_index start.steps (region_at cut i) ≤ net.steps = lawful.in_time (region_at cut i) 0 (omega (arith, region_at-there cut i, lawful.one_each)) in
    are_the_recurrences net cut start sound lawful true_start net.steps i (Contains-range cells i has) begun) ∙
    sym (fill_by_all (row_at (state_at net net.steps)) (state_at net net.steps) cells empty_row (length-state_at net net.steps) (λ k within. refl))

-- what is noted of cell i at step t of the recurrences
abbrev pub state_note : Network → (t i : ℕ) → Note
state_note net t i = note_of (row_at (state_at net t) i)

-- and what is noted of all cells is noted of its rows, where all regions start at step 0
pub all_notes-true : (setup : SetupValue) → IsNetwork setup.net → AreLawful setup.net setup.chart.cut setup.start.steps → IsTrueStart setup.net setup.chart.cut setup.start →
    ((q : ℕ) → slice_index setup.start.steps q ≡ 0) → (t : ℕ) → all_notes setup.net setup.chart.cut setup.start t ≡ notes_of (state_at setup.net t)
unfolding all_notes
all_notes-true setup sound lawful true_start at_zero t =
    let net : Network = setup.net in
    let cells : ℕ = length net.cells in
    map_same (grid_note net setup.chart.cut setup.start t) (state_note net t) (range_with_len 0 cells)
    (λ i has.
    let begun : slice_index setup.start.steps (region_at setup.chart.cut i) ≤ t = omega (arith, at_zero (region_at setup.chart.cut i)) in
    ap note_of (are_the_recurrences net setup.chart.cut setup.start sound lawful true_start t i (Contains-range cells i has) begun)) ∙
    sym (fill_by_all (state_note net t) (notes_of (state_at net t)) cells (note_of empty_row) (length-map (state_at net t) note_of ∙ length-state_at net t)
    (λ k within. get_or-map note_of (state_at net t) k empty_row (note_of empty_row) (omega (arith, within, length-state_at net t))))

-- their recorded steps have the same lines
notes-true : (setup : SetupValue) → IsNetwork setup.net → AreLawful setup.net setup.chart.cut setup.start.steps → IsTrueStart setup.net setup.chart.cut setup.start → IsRecordedFromZero setup →
    note_lines setup.net.cells (grid_note setup.net setup.chart.cut setup.start) (recorded setup.net.steps setup.every 0 setup.net.steps) ≡
    note_lines setup.net.cells (state_note setup.net) (recorded setup.net.steps setup.every 0 setup.net.steps)
notes-true setup sound lawful true_start from_zero =
    let net : Network = setup.net in
    let noted : ℕ → ℕ → Note = grid_note net setup.chart.cut setup.start in
    elim (cases_eq setup.every 0) [
      | inl never ↦
          let none : recorded net.steps setup.every 0 net.steps ≡ [] = ap (λ every. recorded net.steps every 0 net.steps) never ∙ recorded-none net.steps 0 net.steps in
          ap (note_lines net.cells noted) none ∙ note_lines-none net.cells noted ∙ sym (ap (note_lines net.cells (state_note net)) none ∙ note_lines-none net.cells (state_note net))
      | inr some ↦
          note_lines-same net.cells noted (state_note net) (recorded net.steps setup.every 0 net.steps)
          (λ t i there.
          let begun : slice_index setup.start.steps (region_at setup.chart.cut i) ≤ t = omega (arith, from_zero some (region_at setup.chart.cut i)) in
          ap note_of (are_the_recurrences net setup.chart.cut setup.start sound lawful true_start t i there begun))
    ]

report_with-notes : (net : Network) (every : ℕ) (rows : List Row) (f g : ℕ → ℕ → Note) →
    note_lines net.cells f (recorded net.steps every 0 net.steps) ≡ note_lines net.cells g (recorded net.steps every 0 net.steps) → report_with net every f rows ≡ report_with net every g rows
unfolding report_with
report_with-notes net every rows f g same = ap (λ (lines : List ℕ). report_line net ++ lines ++ cell_lines net.cells rows ++ total_line net rows) same

-- and they have the same report
pub report_with-true : (setup : SetupValue) → IsNetwork setup.net → AreLawful setup.net setup.chart.cut setup.start.steps → IsTrueStart setup.net setup.chart.cut setup.start → IsRecordedFromZero setup →
    report_with setup.net setup.every (grid_note setup.net setup.chart.cut setup.start) (last_rows setup.net setup.chart.cut setup.start) ≡ report_of setup.net setup.every
unfolding report_of
report_with-true setup sound lawful true_start from_zero =
    ap (report_with setup.net setup.every (grid_note setup.net setup.chart.cut setup.start)) (last_rows-true setup.net setup.chart.cut setup.start sound lawful true_start) ∙
    report_with-notes setup.net setup.every (state_at setup.net setup.net.steps) (grid_note setup.net setup.chart.cut setup.start) (state_note setup.net)
    (notes-true setup sound lawful true_start from_zero)

-- a report with no recorded steps has no lines of them
pub report_with-none : (net : Network) (cut : List ℕ) (start : StartLists) (note : ℕ → ℕ → Note) → report_with net 0 note (last_rows net cut start) ≡ report_from net cut start
unfolding report_with report_from note_lines
report_with-none net cut start note =
    ap (λ (first : List ℕ). first ++ cell_lines net.cells (last_rows net cut start) ++ total_line net (last_rows net cut start))
    (ap (λ (steps : List ℕ). report_line net ++ note_lines net.cells note steps) (recorded-none net.steps 0 net.steps) ∙ append-nil (report_line net))
