-- The state of a cell as it is opened makes the cell's row.
use Rattle.std.specs.Prelude.{All, map, slice_index}
use Rattle.std.proofs.Common.{◌≡◌, ℕ, ◌<◌, ◌≤◌, inl, inr, true, false, List, length, refl, sym, ap, subst, ◌∙◌, arith}
use Rattle.std.proofs.lemmas.Bool.{cases_Bool}
use Rattle.std.proofs.lemmas.List.{ext_get_or, get_or-map, length-map}
use Rattle.network_file.specs.Cells.{is_exit_at}
use Rattle.network_file.specs.Network.{Network}
use Rattle.network_file.specs.Sound.{IsNetwork}
use Rattle.flow_model.specs.Bounds.{IsHeldInBounds, IsRowInBounds}
use Rattle.flow_model.specs.Limits.{room_at}
use Rattle.flow_model.specs.Rows.{empty_row}
use Rattle.flow_model.specs.State.{row_at}
use Rattle.flow_model.specs.declared.row.Row.{Row}
use Rattle.flow_model.proofs.Bounds.{small}
use Rattle.cell_sweep.specs.CellStates.{cell_state_at}
use Rattle.connector_flow.specs.Space.{IsSpaceOf}
use Rattle.cell_sweep.specs.declared.cell_state.CellState.{CellState}
use Rattle.region_body.proofs.LinkFlows.{held-fits}
use Rattle.region_body.specs.First.{AreConstantsOf, IsFirst}
use Rattle.region_body.specs.Rows.{AreSettled, IsOf, constants_at, row_of, rows_of}
use Rattle.connector_flow.proofs.Spaces.{has-space}
use Rattle.region_body.proofs.Whole.{length-rows_of, row_at-rows_of}
use Rattle.region_body.specs.declared.cell_constants.CellConstants.{CellConstants}

row_same : (row : Row) {n come gone wait : ℕ} → n ≡ row.n → come ≡ row.come → gone ≡ row.gone → wait ≡ row.wait →
    record { n = n; come = come; gone = gone; wait = wait } ≡ row
row_same row e1 e2 e3 e4 = rw (e1, e2, e3, e4) refl

pub first-row : (net : Network) (t i : ℕ) (row : Row) (constants : CellConstants) (state : CellState) → AreConstantsOf net i constants → IsFirst net i row state →
    IsRowInBounds net t i row → (row_of constants state ≡ row) × IsOf net i constants state
first-row net t i row constants state constants_are state_is bounds = elim (cases_Bool constants.is_exit) [
  | inl exit ↦
      let at : is_exit_at net.cells i ≡ true = sym constants_are.exit ∙ exit in
      let come = bounds.exit_come at in
      let wait = bounds.exit_wait at in
      let n = state_is.n in
      let gone = state_is.gone in (
        rw exit (row_same row n (n ∙ sym come) gone (sym wait)),
        record {
          first = constants_are.first;
          exit = constants_are.exit;
          began = λ other. cc;
          sums = λ other. cc;
        },
      )
  | inr other ↦
      let at : is_exit_at net.cells i ≡ false = sym constants_are.exit ∙ other in
      let balance = bounds.balance at in
      let n = state_is.n in
      let gone = state_is.gone in
      let held = state_is.held in
      let first = constants_are.first in (
        rw other (row_same row n (omega arith) gone (omega arith)),
        record {
          first = constants_are.first;
          exit = constants_are.exit;
          began = λ same. omega arith;
          sums = λ same. omega arith;
        },
      )
]

-- all cells as they are opened
pub record AreOpened (net : Network) (t : ℕ) (cells : List ℕ) (rows : List Row) (constants : List CellConstants) (first after : List CellState) : Type 0 where
  pub sound : IsNetwork net
  pub in_time : t ≤ net.steps
  pub there : All (λ i. i < length net.cells) cells
  pub bounds : All (λ i. IsRowInBounds net t i (row_at rows i)) cells
  pub constants_each : length constants ≡ length cells
  pub first_each : length first ≡ length cells
  pub after_each : length after ≡ length first
  pub constants_are : (p : ℕ) → p < length cells → AreConstantsOf net (slice_index cells p) (constants_at constants p)
  pub first_is : (p : ℕ) → p < length cells → IsFirst net (slice_index cells p) (row_at rows (slice_index cells p)) (cell_state_at first p)
  pub only_most : (p : ℕ) → cell_state_at after p ≡ record (cell_state_at first p) { most = (cell_state_at after p).most }

pub opened-cell : (net : Network) (t : ℕ) (cells : List ℕ) (rows : List Row) (constants : List CellConstants) (first after : List CellState) (p : ℕ) →
    AreOpened net t cells rows constants first after → p < length cells →
    (row_of (constants_at constants p) (cell_state_at after p) ≡ row_at rows (slice_index cells p)) × IsOf net (slice_index cells p) (constants_at constants p) (cell_state_at after p)
opened-cell net t cells rows constants first after p opened within =
    let i : ℕ = slice_index cells p in
    let is = first-row net t i (row_at rows i) (constants_at constants p) (cell_state_at first p) (opened.constants_are p within) (opened.first_is p within) (opened.bounds p 0 within) in
    let of_cell = is.1 in
    rw (opened.only_most p) (is.0, record { first = of_cell.first; exit = of_cell.exit; began = of_cell.began; sums = of_cell.sums })

pub opened-rows : (net : Network) (t : ℕ) (cells : List ℕ) (rows : List Row) (constants : List CellConstants) (first after : List CellState) →
    AreOpened net t cells rows constants first after → rows_of constants after ≡ map (row_at rows) cells
opened-rows net t cells rows constants first after opened =
    ext_get_or empty_row (rows_of constants after) (map (row_at rows) cells)
    (length-rows_of constants after ∙ opened.constants_each ∙ sym (length-map cells (row_at rows)))
    (λ p lt.
    let inside : p < length constants = omega (arith, length-rows_of constants after) in
    let within : p < length cells = omega (arith, opened.constants_each) in
    row_at-rows_of constants after p inside
    ∙ (opened-cell net t cells rows constants first after p opened within).0
    ∙ sym (get_or-map (row_at rows) cells p 0 empty_row within))

pub opened-settled : (net : Network) (t : ℕ) (cells : List ℕ) (rows : List Row) (constants : List CellConstants) (first after : List CellState) (before : List ℕ) →
    AreOpened net t cells rows constants first after → length before ≡ length cells → AreSettled constants after before
opened-settled net t cells rows constants first after before opened long = record {
  one_each = opened.after_each ∙ opened.first_each ∙ sym opened.constants_each;
  before_each = long ∙ sym opened.constants_each;
  each = λ p inside.
      let within : p < length cells = omega (arith, opened.constants_each) in
      let i : ℕ = slice_index cells p in
      let cell = opened-cell net t cells rows constants first after p opened within in
      let few = small net t i (row_at rows i) opened.sound opened.in_time (opened.there p 0 within) (opened.bounds p 0 within) in
      let n = ap (λ row. row.n) cell.0 in
      let gone = ap (λ row. row.gone) cell.0 in
      let few_n = few.n in
      let few_gone = few.gone in
      let space : IsSpaceOf (cell_state_at after p).space (room_at net.cells i) =
      subst (λ space. IsSpaceOf space (room_at net.cells i)) (sym (ap (λ state. state.space) (opened.only_most p))) (opened.first_is p within).space in
      let held : IsHeldInBounds net t i (cell_state_at after p).n = subst (IsHeldInBounds net t i) (sym n) (opened.bounds p 0 within).held in
      record {
        began = cell.1.began;
        sums = cell.1.sums;
        fits = omega arith;
        room = held-fits (cell_state_at after p).n 0 (cell_state_at after p).space (room_at net.cells i) space
            (has-space net t i (cell_state_at after p).n 0 opened.sound opened.in_time (opened.there p 0 within) held (omega arith));
      };
}
