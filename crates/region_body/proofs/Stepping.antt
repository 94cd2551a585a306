-- The state of a cell after a step makes its row after the step.
use Rattle.std.proofs.Common.{◌≡◌, ℕ, ◌+◌, ◌-◌, ◌%◌, ◌^◌, ◌<◌, ◌≤◌, inl, inr, true, false, refl, sym, ◌∙◌, arith}
use Rattle.std.proofs.Math.Nat.{mod-eq_of_lt}
use Rattle.std.proofs.lemmas.Bool.{cases_Bool}
use Rattle.network_file.specs.Cells.{is_exit_at}
use Rattle.network_file.specs.Network.{Network}
use Rattle.flow_model.specs.Rows.{moved_row}
use Rattle.flow_model.specs.declared.row.Row.{Row}
use Rattle.flow_model.proofs.Bounds.{IsChange}
use Rattle.cell_sweep.specs.CellStates.{moved}
use Rattle.cell_sweep.specs.declared.cell_state.CellState.{CellState}
use Rattle.region_body.specs.Rows.{IsOf, row_of}
use Rattle.region_body.specs.declared.cell_constants.CellConstants.{CellConstants}

row_same : (row : Row) {n come gone wait : ℕ} → row.n ≡ n → row.come ≡ come → row.gone ≡ gone → row.wait ≡ wait →
    row ≡ record { n = n; come = come; gone = gone; wait = wait }
row_same row e1 e2 e3 e4 = rw (← e1, ← e2, ← e3, ← e4) refl

-- a road or a gate
row-road : (first n gone held enters leaves : ℕ) → leaves ≤ n → first ≤ n + gone → gone ≤ held → held + n < 2 ^ 64 →
    (n + enters - leaves + (gone + leaves) - first ≡ n + gone - first + enters) ×
    ((held + n) % 2 ^ 64 - (gone + leaves) ≡ held - gone + (n - leaves))
row-road first n gone held enters leaves taken began sums fits =
    let whole : (held + n) % 2 ^ 64 ≡ held + n = mod-eq_of_lt fits in
    (omega arith, omega arith)

pub row-stepped : (net : Network) (t i : ℕ) (constants : CellConstants) (state : CellState) (enters leaves : ℕ) → IsOf net i constants state →
    IsChange net t i state.n enters leaves → (constants.is_exit ≡ false → state.held + state.n < 2 ^ 64) →
    row_of constants (moved state enters leaves) ≡ moved_row net i (row_of constants state) enters leaves
row-stepped net t i constants state enters leaves is change fits = elim (cases_Bool constants.is_exit) [
  | inl exit ↦
      let exit_at : is_exit_at net.cells i ≡ true = sym is.exit ∙ exit in
      let none = change.exit exit_at in
      rw (exit, exit_at) (row_same _ refl (omega arith) refl refl)
  | inr other ↦
      let other_at : is_exit_at net.cells i ≡ false = sym is.exit ∙ other in
      let sums = row-road constants.first state.n state.gone state.held enters leaves change.held (is.began other) (is.sums other) (fits other) in
      rw (other, other_at) (row_same _ refl sums.0 refl sums.1)
]

pub stepped-is_of : (net : Network) (t i : ℕ) (constants : CellConstants) (state : CellState) (enters leaves : ℕ) → IsOf net i constants state →
    IsChange net t i state.n enters leaves → (constants.is_exit ≡ false → state.held + state.n < 2 ^ 64) →
    IsOf net i constants (moved state enters leaves)
stepped-is_of net t i constants state enters leaves is change fits = record {
  first = is.first;
  exit = is.exit;
  began = λ other. omega (arith, is.began other, change.held);
  sums = λ other.
      let whole : (state.held + state.n) % 2 ^ 64 ≡ state.held + state.n = mod-eq_of_lt (fits other) in
      omega (arith, is.sums other, change.held);
}
