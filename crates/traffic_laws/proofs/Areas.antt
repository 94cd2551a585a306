-- Delay is an area.
use Rattle.std.specs.Prelude.{not, sum_by, if◌then◌else◌}
use Rattle.std.specs.List.{range_with_len}
use Rattle.std.proofs.Common.{◌≡◌, inl, inr, ℕ, zero, suc, add-one, false, ◌+◌, ◌-◌, ◌<◌, ◌≤◌, List, [], length, arith, refl, ap, slice_index, ◌∙◌}
use Rattle.std.proofs.lemmas.Bool.{cases_Bool}
use Rattle.std.proofs.lemmas.Int.{ints}
use Rattle.std.proofs.lemmas.List.Sums.{sum_by-cons}
use Rattle.step_plan.proofs.Sums.{sum_by-same, sum_by-zero, sum_by_places, sum_by_range_split, sum_by_splits}
use Rattle.network_file.specs.Cells.{is_exit_at}
use Rattle.network_file.specs.Network.{Network}
use Rattle.network_file.specs.Sound.{IsNetwork}
use Rattle.flow_model.specs.Rows.{empty_row}
use Rattle.flow_model.specs.State.{delay_of, occupancy, row_at, state_at}
use Rattle.flow_model.specs.declared.row.Row.{Row}
use Rattle.flow_model.proofs.States.{length-state_at}
use Rattle.flow_ledger.specs.Books.{inside_of}
use Rattle.flow_ledger.specs.Flight.{gone_of}
use Rattle.flow_ledger.proofs.CellSums.{sum_where-parts}
use Rattle.flow_ledger.proofs.ConnectorSums.{All-below}
use Rattle.flow_ledger.proofs.StateRows.{gone-zero}
use Rattle.traffic_laws.specs.Area.{IsWaitOfCell, NeverCross, area_between, area_under}
use Rattle.traffic_laws.specs.Curves.{arrived, departed}
use Rattle.traffic_laws.specs.TimeSpent.{IsAreaInEachCell, IsAreaInside, time_spent_by}
use Rattle.traffic_laws.proofs.CellSteps.{departed-next-le, spent-next, waited, waited-between, waited-exit, waited-zero}

-- areas, step by step

-- one step more
pub area_under-more : (curve : ℕ → ℕ) (steps : ℕ) → area_under curve (steps + 1) ≡ area_under curve steps + curve steps
area_under-more curve steps =
    let next : 0 + steps ≡ steps = omega arith in
    omega (arith, sum_by_range_split curve 0 steps 1, sum_by-cons curve (0 + steps) [], ap curve next)

-- of curves that agree
pub area_under-same : (f g : ℕ → ℕ) (steps : ℕ) → ((s : ℕ) → s < steps → f s ≡ g s) → area_under f steps ≡ area_under g steps
area_under-same f g steps same = sum_by-same (λ s. s < steps) f g (range_with_len 0 steps) same (All-below steps)

-- in a cell

-- its wait, and what has gone out of it, are the area under what it held
pub area-in-cell : (net : Network) → IsNetwork net → IsAreaInEachCell net
area-in-cell net sound zero i has no_exit = omega (arith, waited-zero net i has, gone-zero net i has)
area-in-cell net sound (suc t) i has no_exit =
    let more = area_under-more (λ s. occupancy (state_at net s) i) t in
    omega (arith, rw add-one at more, rw add-one at (spent-next net i t sound has no_exit), area-in-cell net sound t i has no_exit)

-- its wait is the area between its curves
pub wait-between : (net : Network) (i t : ℕ) → IsNetwork net → i < length net.cells → is_exit_at net.cells i ≡ false → t ≤ net.steps →
    area_under (arrived net i) t ≡ waited net i t + area_under (λ s. departed net i (s + 1)) t
wait-between net i zero sound has no_exit within = omega (arith, waited-zero net i has)
wait-between net i (suc t) sound has no_exit within =
    omega (
      arith,
      rw add-one at (area_under-more (arrived net i) t),
      rw add-one at (area_under-more (λ s. departed net i (s + 1)) t),
      rw add-one at (waited-between net i t sound has no_exit (omega arith)),
      wait-between net i t sound has no_exit (omega arith),
    )

-- by the curves that were recorded
pub wait-of-cell : (first : ℕ) (come gone : List ℕ) → IsWaitOfCell first come gone (area_between first come gone)
unfolding area_between
wait-of-cell first come gone net i curves =
    let steps : ℕ = length come - 1 in
    let came = area_under-same (λ s. first + slice_index come s) (arrived net i) steps (λ s within. curves.arrivals s (omega arith)) in
    let went = area_under-same (λ s. slice_index gone (s + 1)) (λ s. departed net i (s + 1)) steps
    (λ s within. curves.departures (s + 1) (omega (arith, curves.same_steps))) in
    omega (arith, ints, came, went, wait-between net i steps curves.sound curves.has_cell curves.no_exit (omega (arith, curves.in_time)))

pub never-cross : (first : ℕ) (come gone : List ℕ) → NeverCross first come gone
never-cross first come gone net i curves s within =
    let there : s + 1 < length come = omega (arith, curves.same_steps) in
    omega (
      arith,
      curves.arrivals s (omega arith),
      curves.departures (s + 1) within,
      departed-next-le net i s curves.sound curves.has_cell curves.no_exit (omega (arith, curves.in_time)),
    )

-- in the whole network

-- the part of cell i in the time that was spent
unfoldable pub part : Network → List Row → (i : ℕ) → ℕ
part net rows i = (row_at rows i).wait + (if not (is_exit_at net.cells i) then gone_of rows i else 0)

pub spent-parts : (net : Network) (rows : List Row) → length rows ≡ length net.cells →
    time_spent_by net rows ≡ sum_by (part net rows) (range_with_len 0 (length net.cells))
unfolding time_spent_by delay_of part
spent-parts net rows one_each =
    let cells : List ℕ = range_with_len 0 (length net.cells) in
    let gone : ℕ → ℕ = λ i. if not (is_exit_at net.cells i) then gone_of rows i else 0 in
    omega (
      arith,
      rw one_each at (sum_by_places (λ (row : Row). row.wait) rows empty_row),
      sum_where-parts (λ i. not (is_exit_at net.cells i)) (gone_of rows) (length net.cells),
      sum_by_splits (part net rows) (λ i. (row_at rows i).wait) gone cells (λ i. refl),
    )

part-zero : (net : Network) (i : ℕ) → i < length net.cells → part net (state_at net 0) i ≡ 0
unfolding part
part-zero net i has = elim (cases_Bool (is_exit_at net.cells i)) [
  | inl exit ↦ rw exit (omega (arith, waited-zero net i has))
  | inr stays ↦ rw stays (omega (arith, waited-zero net i has, gone-zero net i has))
]

part-next : (net : Network) (t i : ℕ) → IsNetwork net → i < length net.cells →
    part net (state_at net (t + 1)) i ≡ part net (state_at net t) i + (if not (is_exit_at net.cells i) then occupancy (state_at net t) i else 0)
unfolding part
part-next net t i sound has = elim (cases_Bool (is_exit_at net.cells i)) [
  | inl exit ↦ rw exit (omega (arith, waited-exit net i t has exit))
  | inr stays ↦ rw stays (omega (arith, spent-next net i t sound has stays))
]

pub spent-zero : (net : Network) → time_spent_by net (state_at net 0) ≡ 0
spent-zero net =
    let cells : List ℕ = range_with_len 0 (length net.cells) in
    spent-parts net (state_at net 0) (length-state_at net 0) ∙
    sum_by-same (λ i. i < length net.cells) (part net (state_at net 0)) (λ i. 0) cells (part-zero net) (All-below (length net.cells)) ∙
    sum_by-zero (λ i. 0) cells (λ k d within. omega arith)

pub spent-more : (net : Network) (t : ℕ) → IsNetwork net →
    time_spent_by net (state_at net (t + 1)) ≡ time_spent_by net (state_at net t) + inside_of net (state_at net t)
unfolding inside_of
spent-more net t sound =
    let cells : List ℕ = range_with_len 0 (length net.cells) in
    let inside : ℕ → ℕ = λ i. if not (is_exit_at net.cells i) then occupancy (state_at net t) i else 0 in
    omega (
      arith,
      spent-parts net (state_at net (t + 1)) (length-state_at net (t + 1)),
      spent-parts net (state_at net t) (length-state_at net t),
      sum_by-same (λ i. i < length net.cells) (part net (state_at net (t + 1))) (λ i. part net (state_at net t) i + inside i) cells
          (λ i has. part-next net t i sound has) (All-below (length net.cells)),
      sum_by_splits (λ i. part net (state_at net t) i + inside i) (part net (state_at net t)) inside cells (λ i. refl),
      sum_where-parts (λ i. not (is_exit_at net.cells i)) (occupancy (state_at net t)) (length net.cells),
    )

-- the time spent by step t is the area under what was inside before
pub spent-area : (net : Network) (t : ℕ) → IsNetwork net →
    time_spent_by net (state_at net t) ≡ area_under (λ s. inside_of net (state_at net s)) t
spent-area net zero sound = spent-zero net
spent-area net (suc t) sound =
    let more = area_under-more (λ s. inside_of net (state_at net s)) t in
    omega (arith, rw add-one at more, rw add-one at (spent-more net t sound), spent-area net t sound)

pub area-inside : (net : Network) (rows : List Row) → IsNetwork net → IsAreaInside net rows (time_spent_by net rows)
area-inside net rows sound t is = rw is (spent-area net t sound)
