-- The delay of a network, step by step: it and all that has gone out of cells grow together by what is inside.
use Rattle.std.specs.Prelude.{not, sum_by, if◌then◌else◌}
use Rattle.std.specs.List.{range_with_len}
use Rattle.std.proofs.Common.{◌≡◌, inl, inr, ℕ, zero, suc, add-one, true, ◌+◌, ◌<◌, ◌≤◌, List, length, arith, refl, sym, ◌∙◌}
use Rattle.std.proofs.lemmas.Bool.{cases_Bool}
use Rattle.step_plan.proofs.Sums.{sum_by-same}
use Rattle.network_file.specs.Cells.{is_exit_at, is_gate_at}
use Rattle.network_file.specs.Network.{Network}
use Rattle.network_file.specs.Sound.{IsNetwork}
use Rattle.flow_model.specs.State.{delay_of, occupancy, state_at}
use Rattle.flow_model.proofs.Flows.{outflow-exit}
use Rattle.flow_model.proofs.States.{state_at-in_bounds}
use Rattle.flow_ledger.specs.Books.{entered_of, inside_of, left_of}
use Rattle.flow_ledger.proofs.CellSums.{sum_where-parts}
use Rattle.flow_ledger.proofs.ConnectorSums.{All-below}
use Rattle.flow_ledger.proofs.StateRows.{gone-next, gone-zero}
use Rattle.traffic_laws.specs.TimeSpent.{time_spent_by}
use Rattle.traffic_laws.proofs.Areas.{spent-more, spent-zero}
use Rattle.monotone_laws.proofs.Curves.{come, gone, held}

-- the numbers of all cells
abbrev pub cells_below : Network → List ℕ
cells_below net = range_with_len 0 (length net.cells)

-- the delay by step t, all that has gone out of cells, and what is inside
abbrev pub delay_by : Network → (t : ℕ) → ℕ
delay_by net t = delay_of (state_at net t)

abbrev pub passed : Network → (t : ℕ) → ℕ
passed net t = sum_by (gone net t) (cells_below net)

abbrev pub inside : Network → (t : ℕ) → ℕ
inside net t = inside_of net (state_at net t)

-- nothing goes out of an exit
gone-exit : (net : Network) (t i : ℕ) → IsNetwork net → i < length net.cells → is_exit_at net.cells i ≡ true → gone net t i ≡ 0
gone-exit net zero i sound has exit = gone-zero net i has
gone-exit net (suc t) i sound has exit =
    omega (
      arith,
      rw add-one at (gone-next net t i has),
      gone-exit net t i sound has exit,
      outflow-exit net t i (occupancy (state_at net t)) sound exit,
    )

-- so the time that was spent is the delay, and all that has gone out of cells
spent-passed : (net : Network) (t : ℕ) → IsNetwork net → time_spent_by net (state_at net t) ≡ delay_by net t + passed net t
unfolding time_spent_by
spent-passed net t sound =
    let stays : ℕ → ℕ = λ i. if not (is_exit_at net.cells i) then gone net t i else 0 in
    omega (
      arith,
      sum_where-parts (λ i. not (is_exit_at net.cells i)) (gone net t) (length net.cells),
      sum_by-same (λ i. i < length net.cells) stays (gone net t) (cells_below net)
          (λ i has. elim (cases_Bool (is_exit_at net.cells i)) [
            | inl exit ↦ rw exit (omega (arith, gone-exit net t i sound has exit))
            | inr other ↦ rw other refl
          ])
          (All-below (length net.cells)),
    )

pub area-zero : (net : Network) → IsNetwork net → delay_by net 0 + passed net 0 ≡ 0
area-zero net sound = sym (spent-passed net 0 sound) ∙ spent-zero net

pub area-next : (net : Network) (t : ℕ) → IsNetwork net →
    delay_by net (t + 1) + passed net (t + 1) ≡ delay_by net t + passed net t + inside net t
area-next net t sound = omega (arith, spent-more net t sound, spent-passed net t sound, spent-passed net (t + 1) sound)

-- what has come to the gates, and what has left by the exits, cell by cell
abbrev pub entered_cell : Network → (t i : ℕ) → ℕ
entered_cell net t i = if is_gate_at net.cells i then come net t i else 0

abbrev pub left_cell : Network → (t i : ℕ) → ℕ
left_cell net t i = if is_exit_at net.cells i then come net t i else 0

pub entered-cells : (net : Network) (t : ℕ) → entered_of net (state_at net t) ≡ sum_by (entered_cell net t) (cells_below net)
unfolding entered_of
entered-cells net t = sum_where-parts (is_gate_at net.cells) (come net t) (length net.cells)

pub left-cells : (net : Network) (t : ℕ) → IsNetwork net → t ≤ net.steps →
    left_of net (state_at net t) ≡ sum_by (left_cell net t) (cells_below net)
unfolding left_of
left-cells net t sound within =
    let holds : ℕ → ℕ = λ i. if is_exit_at net.cells i then held net t i else 0 in
    sum_where-parts (is_exit_at net.cells) (held net t) (length net.cells) ∙
    sum_by-same (λ i. i < length net.cells) holds (left_cell net t) (cells_below net)
    (λ i has. elim (cases_Bool (is_exit_at net.cells i)) [
      | inl exit ↦ rw exit (omega (arith, ((state_at-in_bounds net sound t within).each i has).exit_come exit))
      | inr other ↦ rw other refl
    ])
    (All-below (length net.cells))
