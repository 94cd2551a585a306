-- More demand, in each step, to the same network: there is more inside, and so the delay is no less.
use Rattle.std.specs.Prelude.{sum_by, if◌then◌else◌}
use Rattle.std.specs.List.{range_with_len}
use Rattle.std.proofs.Common.{◌≡◌, inl, inr, ℕ, zero, suc, add-one, true, false, ◌+◌, ◌<◌, ◌≤◌, [], length, get_or, arith, refl, ap, sym, ◌∙◌}
use Rattle.std.proofs.lemmas.Bool.{cases_Bool}
use Rattle.std.proofs.lemmas.List.Elements.{All-from_get_or}
use Rattle.std.proofs.lemmas.List.Sums.{sum_by-cons}
use Rattle.step_plan.specs.Demand.{demand_at}
use Rattle.step_plan.specs.Total.{demand_from}
use Rattle.step_plan.proofs.Laws.{demand_from_next, demand_from_none}
use Rattle.step_plan.proofs.Sums.{sum_by-same, sum_by_splits}
use Rattle.network_file.specs.Cells.{is_exit_at, is_gate_at}
use Rattle.network_file.specs.Connectors.{downstream_of, upstream_of}
use Rattle.network_file.specs.Numbered.{connector_at}
use Rattle.network_file.specs.Network.{Network}
use Rattle.network_file.specs.declared.connector.Connector.{Connector}
use Rattle.network_file.specs.declared.connector.Connector.TheVariants.{Link, Merge, Diverge}
use Rattle.flow_model.specs.State.{state_at}
use Rattle.flow_ledger.specs.Books.{entered_of, left_of}
use Rattle.flow_ledger.proofs.BooksLaws.{state-balance}
use Rattle.flow_ledger.proofs.ConnectorSums.{All-below, sum_by-lists}
use Rattle.flow_ledger.proofs.EvenFlights.{downstream-there, upstream-there}
use Rattle.monotone_laws.specs.Demands.{MoreByEachStep, MoreInEachStep}
use Rattle.monotone_laws.specs.Links.{is_link}
use Rattle.monotone_laws.proofs.Area.{area-next, area-zero, cells_below, delay_by, entered-cells, entered_cell, inside, left-cells, left_cell, passed}
use Rattle.monotone_laws.proofs.Curves.{come, come-gate, gone}
use Rattle.monotone_laws.proofs.EasedDelay.{same-initial}
use Rattle.monotone_laws.proofs.Linked.{IsLinked, linked-down, linked-up, out-cases}
use Rattle.monotone_laws.proofs.OneStep.{same-exit, same-gate}
use Rattle.monotone_laws.proofs.RunningMost.{le-most_by, most_by-rising}
use Rattle.monotone_laws.proofs.Surplus.{AreBusier, goes-later, goes-no_faster, more_in, more_out, most-linked, most_in, most_in-none, most_out, most_out-none}
use Rattle.monotone_laws.proofs.TwoSums.{sum_by-no_less}

-- more in each step is more by each step
pub more-by_each_step : (one two : Network) → MoreInEachStep one two → MoreByEachStep one two
more-by_each_step one two more i zero has gate within = omega (arith, demand_from_none one.plan i 0)
more-by_each_step one two more i (suc t) has gate within =
    let next : demand_from one.plan i 0 (t + 1) ≤ demand_from two.plan i 0 (t + 1) =
    omega (
      arith,
      demand_from_next one.plan i t,
      demand_from_next two.plan i t,
      more i t has gate (omega arith),
      more-by_each_step one two more i t has gate (omega arith),
    ) in
    rw add-one at next

-- the demand of a step comes in
come-gate-next : (net : Network) (t i : ℕ) → i < length net.cells → is_gate_at net.cells i ≡ true →
    come net (t + 1) i ≡ come net t i + demand_at net.plan i t
come-gate-next net t i has gate =
    omega (arith, come-gate net t i has gate, come-gate net (t + 1) i has gate, demand_from_next net.plan i t)

-- so what more comes into a gate is the most that more has come, and what comes into another cell is fed by a link
abbrev fed : (one two : Network) → (t i : ℕ) → ℕ
fed one two t i = if is_gate_at one.cells i then 0 else most_in one two t i

comes : (one two : Network) (t i : ℕ) → AreBusier one two → MoreInEachStep one two → t ≤ one.steps → i < length one.cells →
    most_in one two t i + entered_cell one t i ≡ fed one two t i + entered_cell two t i
comes one two t i both more within has =
    let has_too : i < length two.cells = omega (arith, both.alike.there.one_each) in
    let kind = same-gate one two i both.alike.there has in
    elim (cases_Bool (is_gate_at one.cells i)) [
      | inl gate ↦
          let gate_too : is_gate_at two.cells i ≡ true = rw kind gate in
          let rises = most_by-rising (more_in one two i) t (λ s early.
          omega (arith, come-gate-next one s i has gate, come-gate-next two s i has_too gate_too, more i s has gate (omega arith), no_less s (omega arith) gate gate_too)) in
          rw (gate_too, gate) (omega (arith, rises, no_less t within gate gate_too))
      | inr other ↦
          let other_too : is_gate_at two.cells i ≡ false = rw kind other in
          rw (other_too, other) (omega arith)
    ]
  where
    no_less : (s : ℕ) → s ≤ one.steps → is_gate_at one.cells i ≡ true → is_gate_at two.cells i ≡ true → come one s i ≤ come two s i
    no_less s early gate gate_too =
        omega (
          arith,
          come-gate one s i has gate,
          come-gate two s i (omega (arith, both.alike.there.one_each)) gate_too,
          more-by_each_step one two more i s has gate early,
        )

-- what feeds the cell downstream of a link goes out of the one upstream
feeds : (one two : Network) (t k : ℕ) → AreBusier one two → k < length one.connectors →
    sum_by (most_out one two t) (upstream_of (connector_at one.connectors k)) ≡ sum_by (fed one two t) (downstream_of (connector_at one.connectors k))
feeds one two t k both has = by (connector_at one.connectors k) (both.alone k (Link 0 0) has) refl
  where
    by : (connector : Connector) → is_link connector ≡ true → connector_at one.connectors k ≡ connector →
        sum_by (most_out one two t) (upstream_of connector) ≡ sum_by (fed one two t) (downstream_of connector)
    by (Link i j) link is =
        let linked : IsLinked one i j = record { k = k; there = has; is = is } in
        let no_gate : is_gate_at one.cells j ≡ false = (linked-down one i j both.first linked).1 in
        let own : fed one two t j ≡ most_in one two t j = rw no_gate refl in
        omega (
          arith,
          sum_by-cons (most_out one two t) i [],
          sum_by-cons (fed one two t) j [],
          own,
          most-linked one two t i j both linked,
        )
    by (Merge up1 up2 down p1 p2) link is = cc
    by (Diverge up down1 down2 b1 b2) link is = cc

-- and so in all
fed-in_all : (one two : Network) (t : ℕ) → AreBusier one two →
    sum_by (fed one two t) (cells_below one) ≡ sum_by (most_out one two t) (cells_below one)
fed-in_all one two t both =
    let n : ℕ = length one.cells in
    let sent : Connector → ℕ = λ connector. sum_by (most_out one two t) (upstream_of connector) in
    let received : Connector → ℕ = λ connector. sum_by (fed one two t) (downstream_of connector) in
    let is_even : Connector → Type 0 = λ connector. sent connector ≡ received connector in
    let sound = both.first.sound in
    sym (sum_by-lists downstream_of (fed one two t) n one.connectors
    (λ k d within. let fits = sound.sound_connectors k d within in (fits.down_apart, downstream-there one (get_or one.connectors k d) fits))
    sound.one_in (λ i has no_link. elim (cases_Bool (is_gate_at one.cells i)) [
      | inl gate ↦ rw gate refl
      | inr other ↦ rw other (most_in-none one two t i both has no_link other)
    ])) ∙
    sym (sum_by-same is_even sent received one.connectors (λ connector same. same)
    (All-from_get_or is_even one.connectors (Link 0 0) (λ k there. feeds one two t k both there))) ∙
    sum_by-lists upstream_of (most_out one two t) n one.connectors
    (λ k d within. let fits = sound.sound_connectors k d within in (fits.up_apart, upstream-there one (get_or one.connectors k d) fits))
    sound.one_out (λ i has no_link. most_out-none one two t i both has no_link)

-- what more has come into all cells came by the gates, or had gone out of cells
comes-in_all : (one two : Network) (t : ℕ) → AreBusier one two → MoreInEachStep one two → t ≤ one.steps →
    sum_by (most_in one two t) (cells_below one) + entered_of one (state_at one t) ≡
    sum_by (most_out one two t) (cells_below one) + entered_of two (state_at two t)
comes-in_all one two t both more within =
    let first : ℕ → ℕ = λ i. most_in one two t i + entered_cell one t i in
    let second : ℕ → ℕ = λ i. fed one two t i + entered_cell two t i in
    omega (
      arith,
      sum_by-same (λ i. i < length one.cells) first second (cells_below one) (λ i has. comes one two t i both more within has)
          (All-below (length one.cells)),
      sum_by_splits first (most_in one two t) (entered_cell one t) (cells_below one) (λ i. refl),
      sum_by_splits second (fed one two t) (entered_cell two t) (cells_below one) (λ i. refl),
      fed-in_all one two t both,
      entered-cells one t,
      entered-cells two t,
      ap (λ n. sum_by (entered_cell two t) (range_with_len 0 n)) both.alike.there.one_each,
    )

-- it goes out in the next step, or has left
goes : (one two : Network) (t i : ℕ) → AreBusier one two → t < one.steps → i < length one.cells →
    most_out one two (t + 1) i + left_cell two t i ≤ most_in one two t i + left_cell one t i
goes one two t i both before has =
    let kind = same-exit one two i both.alike.there has in
    let later = goes-later one two t i both before (goes-no_faster one two both t (omega arith)) has in
    elim (cases_Bool (is_exit_at one.cells i)) [
      | inl exit ↦
          let exit_too : is_exit_at two.cells i ≡ true = rw kind exit in
          let stays : most_out one two (t + 1) i ≡ 0 = elim (out-cases one i both.alone) [
            | inl no_link ↦ most_out-none one two (t + 1) i both has no_link
            | inr to ↦ let no_exit = (linked-up one i to.0 both.first to.1).1 in cc
          ] in
          rw (exit_too, exit) (omega (arith, stays, le-most_by (more_in one two i) t))
      | inr other ↦
          let other_too : is_exit_at two.cells i ≡ false = rw kind other in
          rw (other_too, other) (omega (arith, later))
    ]

goes-in_all : (one two : Network) (t : ℕ) → AreBusier one two → t < one.steps →
    sum_by (most_out one two (t + 1)) (cells_below one) + left_of two (state_at two t) ≤
    sum_by (most_in one two t) (cells_below one) + left_of one (state_at one t)
goes-in_all one two t both before =
    let first : ℕ → ℕ = λ i. most_out one two (t + 1) i + left_cell two t i in
    let second : ℕ → ℕ = λ i. most_in one two t i + left_cell one t i in
    omega (
      arith,
      sum_by-no_less (λ i. i < length one.cells) first second (cells_below one) (λ i has. goes one two t i both before has)
          (All-below (length one.cells)),
      sum_by_splits first (most_out one two (t + 1)) (left_cell two t) (cells_below one) (λ i. refl),
      sum_by_splits second (most_in one two t) (left_cell one t) (cells_below one) (λ i. refl),
      left-cells one t both.first (omega arith),
      left-cells two t both.second (omega (arith, both.alike.there.steps)),
      ap (λ n. sum_by (left_cell two t) (range_with_len 0 n)) both.alike.there.one_each,
    )

-- so what is inside grows by at least what more goes out
more-inside : (one two : Network) (t : ℕ) → AreBusier one two → MoreInEachStep one two → t < one.steps →
    inside one t + sum_by (most_out one two (t + 1)) (cells_below one) ≤ inside two t + sum_by (most_out one two t) (cells_below one)
more-inside one two t both more before =
    omega (
      arith,
      state-balance one t both.first (omega arith),
      state-balance two t both.second (omega (arith, both.alike.there.steps)),
      same-initial one two both.alike.there,
      comes-in_all one two t both more (omega arith),
      goes-in_all one two t both before,
    )

-- the delay, and all that has gone out of cells
more-area : (one two : Network) → AreBusier one two → MoreInEachStep one two → (t : ℕ) → t ≤ one.steps →
    delay_by one t + passed one t + sum_by (most_out one two t) (cells_below one) ≤ delay_by two t + passed two t
more-area one two both more zero within =
    let none = sum_by-no_less (λ i. i < length one.cells) (most_out one two 0) (gone two 0) (cells_below one) (λ i has. omega arith)
    (All-below (length one.cells)) in
    omega (arith, area-zero one both.first, area-zero two both.second, none, ap (λ n. sum_by (gone two 0) (range_with_len 0 n)) both.alike.there.one_each)
more-area one two both more (suc t) within =
    let next : delay_by one (t + 1) + passed one (t + 1) + sum_by (most_out one two (t + 1)) (cells_below one) ≤ delay_by two (t + 1) + passed two (t + 1) =
    omega (
      arith,
      area-next one t both.first,
      area-next two t both.second,
      more-inside one two t both more (omega arith),
      more-area one two both more t (omega arith),
    ) in
    rw add-one at next

-- no more has gone out than that
passed-within : (one two : Network) (t : ℕ) → AreBusier one two →
    passed two t ≤ passed one t + sum_by (most_out one two t) (cells_below one)
passed-within one two t both =
    let within : ℕ → ℕ = λ i. gone one t i + most_out one two t i in
    omega (
      arith,
      sum_by-no_less (λ i. i < length one.cells) (gone two t) within (cells_below one)
          (λ i has. omega (arith, le-most_by (more_out one two i) t)) (All-below (length one.cells)),
      sum_by_splits within (gone one t) (most_out one two t) (cells_below one) (λ i. refl),
      ap (λ n. sum_by (gone two t) (range_with_len 0 n)) both.alike.there.one_each,
    )

pub more-delay : (one two : Network) (t : ℕ) → AreBusier one two → MoreInEachStep one two → t ≤ one.steps → delay_by one t ≤ delay_by two t
more-delay one two t both more within = omega (arith, more-area one two both more t within, passed-within one two t both)
