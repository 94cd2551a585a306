-- In an eased network with the same demands there is no more inside, and so the delay is no more.
use Rattle.std.specs.Prelude.{sum_by}
use Rattle.std.specs.List.{range_with_len}
use Rattle.std.proofs.Common.{◌≡◌, inl, inr, ℕ, zero, suc, add-one, true, false, ◌+◌, ◌<◌, ◌≤◌, length, arith, refl, ap, sym, ◌∙◌}
use Rattle.std.proofs.lemmas.Bool.{cases_Bool}
use Rattle.step_plan.specs.Total.{demand_from}
use Rattle.step_plan.proofs.Laws.{demand_from_next, demand_from_none}
use Rattle.step_plan.proofs.Sums.{sum_by-same}
use Rattle.network_file.specs.Cells.{is_exit_at, is_gate_at}
use Rattle.network_file.specs.Network.{Network}
use Rattle.network_file.specs.declared.cell.Cell.{Cell}
use Rattle.flow_model.specs.State.{state_at}
use Rattle.flow_ledger.specs.Books.{entered_of, left_of}
use Rattle.flow_ledger.specs.Balances.{initial_of}
use Rattle.flow_ledger.proofs.BooksLaws.{state-balance}
use Rattle.flow_ledger.proofs.ConnectorSums.{All-below}
use Rattle.monotone_laws.specs.Demands.{MoreByEachStep, SameDemands}
use Rattle.monotone_laws.specs.Eased.{IsEased}
use Rattle.monotone_laws.proofs.Area.{area-next, area-zero, cells_below, delay_by, entered-cells, entered_cell, inside, left-cells, left_cell, passed}
use Rattle.monotone_laws.proofs.Curves.{come-gate, gone}
use Rattle.monotone_laws.proofs.GoneLaw.{come-law, gone-law}
use Rattle.monotone_laws.proofs.OneStep.{AreEased, same-exit, same-gate}
use Rattle.monotone_laws.proofs.TwoSums.{sum_by-beside, sum_by-no_less}

-- by each step the same has come
same-so_far : (one two : Network) → SameDemands one two → (i t : ℕ) → i < length one.cells → is_gate_at one.cells i ≡ true → t ≤ one.steps →
    demand_from two.plan i 0 t ≡ demand_from one.plan i 0 t
same-so_far one two same i zero has gate within = demand_from_none two.plan i 0 ∙ sym (demand_from_none one.plan i 0)
same-so_far one two same i (suc t) has gate within =
    let next : demand_from two.plan i 0 (t + 1) ≡ demand_from one.plan i 0 (t + 1) =
    omega (
      arith,
      demand_from_next one.plan i t,
      demand_from_next two.plan i t,
      same i t has gate (omega arith),
      same-so_far one two same i t has gate (omega arith),
    ) in
    rw add-one at next

same-by_each_step : (one two : Network) → SameDemands one two → MoreByEachStep one two
same-by_each_step one two same = λ i t has gate within. omega (arith, same-so_far one two same i t has gate within)

-- the same was there at first
pub same-initial : (one two : Network) → IsEased one two → initial_of two ≡ initial_of one
unfolding initial_of
same-initial one two eased =
    let first : Cell → ℕ = λ cell. cell.first in
    sum_by-beside first one.cells two.cells eased.one_each (λ i a b here there. (eased.cells i a b here there).first)

-- the same has entered
same-entered : (one two : Network) (t : ℕ) → AreEased one two → SameDemands one two → t ≤ one.steps →
    entered_of two (state_at two t) ≡ entered_of one (state_at one t)
same-entered one two t both same within =
    entered-cells two t ∙ ap (λ n. sum_by (entered_cell two t) (range_with_len 0 n)) both.eased.one_each ∙
    sum_by-same (λ i. i < length one.cells) (entered_cell two t) (entered_cell one t) (cells_below one)
    (λ i has.
    let kind = same-gate one two i both.eased has in
    elim (cases_Bool (is_gate_at one.cells i)) [
      | inl gate ↦
          let gate_too : is_gate_at two.cells i ≡ true = rw kind gate in
          rw (gate_too, gate) (
          omega (
            arith,
            come-gate one t i has gate,
            come-gate two t i (omega (arith, both.eased.one_each)) gate_too,
            same-so_far one two same i t has gate within,
          )
          )
      | inr other ↦
          let other_too : is_gate_at two.cells i ≡ false = rw kind other in
          rw (other_too, other) refl
    ])
    (All-below (length one.cells)) ∙
    sym (entered-cells one t)

-- and no less has left
more-left : (one two : Network) (t : ℕ) → AreEased one two → MoreByEachStep one two → t ≤ one.steps →
    left_of one (state_at one t) ≤ left_of two (state_at two t)
more-left one two t both demands within =
    let long : sum_by (left_cell two t) (cells_below two) ≡ sum_by (left_cell two t) (cells_below one) =
    ap (λ n. sum_by (left_cell two t) (range_with_len 0 n)) both.eased.one_each in
    let each = sum_by-no_less (λ i. i < length one.cells) (left_cell one t) (left_cell two t) (cells_below one)
    (λ i has.
    let kind = same-exit one two i both.eased has in
    elim (cases_Bool (is_exit_at one.cells i)) [
      | inl exit ↦
          let exit_too : is_exit_at two.cells i ≡ true = rw kind exit in
          rw (exit_too, exit) (come-law one two both demands t within i has)
      | inr other ↦
          let other_too : is_exit_at two.cells i ≡ false = rw kind other in
          rw (other_too, other) (omega arith)
    ])
    (All-below (length one.cells)) in
    omega (arith, left-cells one t both.first within, left-cells two t both.second (omega (arith, both.eased.steps)), long, each)

-- so there is no more inside
less-inside : (one two : Network) (t : ℕ) → AreEased one two → SameDemands one two → t ≤ one.steps → inside two t ≤ inside one t
less-inside one two t both same within =
    omega (
      arith,
      state-balance one t both.first within,
      state-balance two t both.second (omega (arith, both.eased.steps)),
      same-initial one two both.eased,
      same-entered one two t both same within,
      more-left one two t both (same-by_each_step one two same) within,
    )

-- the delay, and all that has gone out of cells
less-area : (one two : Network) → AreEased one two → SameDemands one two → (t : ℕ) → t ≤ one.steps →
    delay_by two t + passed two t ≤ delay_by one t + passed one t
less-area one two both same zero within = omega (arith, area-zero one both.first, area-zero two both.second)
less-area one two both same (suc t) within =
    let next : delay_by two (t + 1) + passed two (t + 1) ≤ delay_by one (t + 1) + passed one (t + 1) =
    omega (
      arith,
      area-next one t both.first,
      area-next two t both.second,
      less-inside one two t both same (omega arith),
      less-area one two both same t (omega arith),
    ) in
    rw add-one at next

pub more-passed : (one two : Network) (t : ℕ) → AreEased one two → MoreByEachStep one two → t ≤ one.steps → passed one t ≤ passed two t
more-passed one two t both demands within =
    let long : passed two t ≡ sum_by (gone two t) (cells_below one) = ap (λ n. sum_by (gone two t) (range_with_len 0 n)) both.eased.one_each in
    omega (
      arith,
      long,
      sum_by-no_less (λ i. i < length one.cells) (gone one t) (gone two t) (cells_below one) (gone-law one two both demands t within)
          (All-below (length one.cells)),
    )

pub eased-delay : (one two : Network) (t : ℕ) → AreEased one two → SameDemands one two → t ≤ one.steps → delay_by two t ≤ delay_by one t
eased-delay one two t both same within =
    omega (arith, less-area one two both same t within, more-passed one two t both (same-by_each_step one two same) within)
