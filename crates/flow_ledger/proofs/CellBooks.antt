-- The books of one cell, at whatever step it stands.
use Rattle.std.specs.Prelude.{not, if◌then◌else◌}
use Rattle.std.specs.List.{list_any}
use Rattle.std.proofs.Common.{◌≡◌, inl, inr, ℕ, Bool, false, true, ◌+◌, ◌<◌, List, length, arith, sym, ap, subst, ◌∙◌}
use Rattle.std.proofs.lemmas.Bool.{cases_Bool}
use Rattle.network_file.specs.Cells.{is_exit_at, is_gate_at}
use Rattle.network_file.specs.Connectors.{leads_into, leads_out_of}
use Rattle.network_file.specs.Network.{Network}
use Rattle.network_file.specs.Sound.{IsNetwork, IsSoundCell}
use Rattle.flow_model.specs.Bounds.{IsRowInBounds, first_at}
use Rattle.flow_model.specs.State.{occupancy, row_at}
use Rattle.flow_model.specs.declared.row.Row.{Row}
use Rattle.flow_model.proofs.CellKinds.{All-at, cell_at, exit_at-no_gate, first-none}
use Rattle.flow_model.proofs.States.{state_at-in_bounds}
use Rattle.flow_ledger.specs.Flight.{gone_of}
use Rattle.flow_ledger.specs.Books.{come_of}
use Rattle.flow_ledger.specs.UnevenSteps.{StandAt}
use Rattle.flow_ledger.proofs.StateRows.{come-none, gone-none}

-- a cell's row is in bounds at its step
row-in_bounds : (net : Network) (s : ℕ → ℕ) (rows : List Row) (i : ℕ) → IsNetwork net → StandAt net s rows → i < length net.cells →
    IsRowInBounds net (s i) i (row_at rows i)
row-in_bounds net s rows i sound stand has =
    subst (IsRowInBounds net (s i) i) (sym (stand.each i has)) ((state_at-in_bounds net sound (s i) (stand.in_time i has)).each i has)

-- an exit starts empty
first-exit : (net : Network) (i : ℕ) → IsNetwork net → i < length net.cells → is_exit_at net.cells i ≡ true → first_at net.cells i ≡ 0
first-exit net i sound has exit =
    let here = cell_at net.cells i has in
    let cell_sound = All-at IsSoundCell net.cells i here.0 here.1 sound.sound.sound_cells in
    let is_exit_here = rw here.1 at exit in
    rw here.1 (first-none here.0.kind here.0.first cell_sound.kind is_exit_here)

-- what came into a cell by connectors, since demand comes to gates alone
abbrev pub brought : Network → List Row → (i : ℕ) → ℕ
brought net rows i = if is_gate_at net.cells i then 0 else come_of rows i

by_gate : (gate : Bool) (n gone first come : ℕ) → n + gone ≡ first + come →
    n + gone + 0 ≡ first + (if gate then come else 0) + (if gate then 0 else come)
by_gate true n gone first come balance = omega arith
by_gate false n gone first come balance = omega arith

-- what a cell holds, or has passed on, is what it held at first and what came
pub cell-balance : (net : Network) (s : ℕ → ℕ) (rows : List Row) (i : ℕ) → IsNetwork net → StandAt net s rows → i < length net.cells →
    (if not (is_exit_at net.cells i) then occupancy rows i else 0) + gone_of rows i + (if is_exit_at net.cells i then occupancy rows i else 0) ≡
    first_at net.cells i + (if is_gate_at net.cells i then come_of rows i else 0) + brought net rows i
cell-balance net s rows i sound stand has =
    let bounds = row-in_bounds net s rows i sound stand has in
    elim (cases_Bool (is_exit_at net.cells i)) [
      | inl exit ↦
          rw (exit, exit_at-no_gate net.cells i exit) (
          omega (arith, first-exit net i sound has exit, bounds.exit_come exit, bounds.exit_gone exit)
          )
      | inr stays ↦ rw stays (by_gate (is_gate_at net.cells i) (occupancy rows i) (gone_of rows i) (first_at net.cells i) (come_of rows i) (bounds.balance stays))
    ]

-- a cell that no connector leads out of has passed nothing on
pub none-gone : (net : Network) (s : ℕ → ℕ) (rows : List Row) (i : ℕ) → StandAt net s rows → i < length net.cells →
    list_any (leads_out_of i) net.connectors ≡ false → gone_of rows i ≡ 0
none-gone net s rows i stand has none = ap (λ (row : Row). row.gone) (stand.each i has) ∙ gone-none net (s i) i has none

-- a cell that no connector leads into was brought nothing
pub none-brought : (net : Network) (s : ℕ → ℕ) (rows : List Row) (i : ℕ) → StandAt net s rows → i < length net.cells →
    list_any (leads_into i) net.connectors ≡ false → brought net rows i ≡ 0
none-brought net s rows i stand has none = elim (cases_Bool (is_gate_at net.cells i)) [
  | inl gate ↦ rw gate (omega arith)
  | inr no_gate ↦ rw no_gate (ap (λ (row : Row). row.come) (stand.each i has) ∙ come-none net (s i) i has none no_gate)
]
