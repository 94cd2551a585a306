-- The rows of a start's regions: the two equations, and the two laws.
use Rattle.std.specs.Prelude.{◌⊎◌, nat_le, slice_index}
use Rattle.std.proofs.Common.{◌≡◌, ◌≢◌, ℕ, zero, suc, add-one, ◌<◌, ◌≤◌, ◌+◌, inl, inr, true, false, List, length, refl, sym, ap, subst, ◌∙◌, arith}
use Rattle.std.proofs.lemmas.Bool.{cases_lt, le-leb, lt-leb}
use Rattle.network_file.specs.Connectors.{are_joined}
use Rattle.network_file.specs.Network.{Network}
use Rattle.network_file.specs.Sound.{IsNetwork}
use Rattle.flow_model.specs.Bounds.{IsHeldInBounds, IsRowInBounds}
use Rattle.flow_model.specs.Rows.{next_row}
use Rattle.flow_model.specs.State.{occupancy, row_at, state_at}
use Rattle.flow_model.proofs.Locality.{next_row-local}
use Rattle.flow_model.proofs.States.{next_row-in_bounds, row_at-state_at-next}
use Rattle.region_cut.specs.Cuttings.{region_at}
use Rattle.region_cut.specs.LawfulSteps.{AreLawful}
use Rattle.region_cut.proofs.Meetings.{halo-border, joined-halo, joined-neighbours, joined-there, neighbours-sym}
use Rattle.region_step.specs.Grid.{grid_before, grid_held, grid_row}
use Rattle.region_step.specs.Laws.{AreTheRecurrences, StayInBounds}
use Rattle.region_step.specs.Start.{StartLists}
use Rattle.region_step.specs.Starting.{Fits, IsTrueStart, start_of}

-- a step is past or before another
past_or_before : (s t : ℕ) → (s ≤ t) ⊎ (t < s)
past_or_before s t = elim (cases_lt t s) [ inl before ↦ inr before | inr other ↦ inl (omega (arith, other)) ]

-- up to its region's start a cell has the start's row
pub grid_row-start : (net : Network) (cut : List ℕ) (start : StartLists) (t i : ℕ) → t ≤ start_of start cut i → grid_row net cut start t i ≡ row_at start.rows i
unfolding grid_row
grid_row-start net cut start zero i before = refl
grid_row-start net cut start (suc t) i before =
    let not_yet : nat_le (start_of start cut i) t ≡ false = lt-leb (start_of start cut i) t (omega (arith, before)) in
    rw not_yet refl

-- from then on each step changes it
grid_row-suc : (net : Network) (cut : List ℕ) (start : StartLists) (t i : ℕ) → start_of start cut i ≤ t →
    grid_row net cut start (suc t) i ≡ next_row net t (grid_held net cut start t) i (grid_row net cut start t i)
unfolding grid_row grid_held
grid_row-suc net cut start t i started =
    let by_then : nat_le (start_of start cut i) t ≡ true = le-leb (start_of start cut i) t started in
    rw by_then refl

pub grid_row-next : (net : Network) (cut : List ℕ) (start : StartLists) (t i : ℕ) → start_of start cut i ≤ t →
    grid_row net cut start (t + 1) i ≡ next_row net t (grid_held net cut start t) i (grid_row net cut start t i)
grid_row-next net cut start t i started = rw add-one (grid_row-suc net cut start t i started)

-- what a cell holds for those around it
pub grid_held-started : (net : Network) (cut : List ℕ) (start : StartLists) (t i : ℕ) → start_of start cut i ≤ t → grid_held net cut start t i ≡ (grid_row net cut start t i).n
unfolding grid_held
grid_held-started net cut start t i started =
    let by_then : nat_le (start_of start cut i) t ≡ true = le-leb (start_of start cut i) t started in
    rw by_then refl

pub grid_held-earlier : (net : Network) (cut : List ℕ) (start : StartLists) (t i : ℕ) → t < start_of start cut i → grid_held net cut start t i ≡ slice_index start.earlier i
unfolding grid_held
grid_held-earlier net cut start t i before =
    let not_yet : nat_le (start_of start cut i) t ≡ false = lt-leb (start_of start cut i) t before in
    rw not_yet refl

grid_before-suc : (net : Network) (cut : List ℕ) (start : StartLists) (t i : ℕ) → grid_before net cut start (suc t) i ≡ grid_held net cut start t i
unfolding grid_before
grid_before-suc net cut start t i = refl

pub grid_before-next : (net : Network) (cut : List ℕ) (start : StartLists) (t i : ℕ) → grid_before net cut start (t + 1) i ≡ grid_held net cut start t i
grid_before-next net cut start t i = rw add-one (grid_before-suc net cut start t i)

-- what a cell held before its region's start
pub grid_before-start : (net : Network) (cut : List ℕ) (start : StartLists) (t i : ℕ) → t ≤ start_of start cut i → grid_before net cut start t i ≡ slice_index start.earlier i
unfolding grid_before
grid_before-start net cut start zero i before = refl
grid_before-start net cut start (suc t) i before = grid_held-earlier net cut start t i (omega (arith, before))

-- each row is in bounds
pub stay_in_bounds : (net : Network) (cut : List ℕ) (start : StartLists) → IsNetwork net → Fits net cut start → StayInBounds net cut start
stay_in_bounds net cut start sound fits = λ t i there started within. at t i there started within
  where
    at : (t i : ℕ) → i < length net.cells → start_of start cut i ≤ t → t ≤ net.steps → IsRowInBounds net t i (grid_row net cut start t i)
    at zero i there started within =
        let here : start_of start cut i ≡ 0 = omega (arith, started) in
        let first = (fits.bounds i there).row in
        rw (grid_row-start net cut start 0 i (omega arith)) (subst (λ s. IsRowInBounds net s i (row_at start.rows i)) here first)
    at (suc t) i there started within = elim (past_or_before (start_of start cut i) t) [
      | inl by_then ↦
          let next = next_row-in_bounds net t i (grid_held net cut start t) (grid_row net cut start t i) sound (omega (arith, within)) there
          (at t i there by_then (omega (arith, within))) (grid_held-started net cut start t i by_then) in
          rw (← grid_row-next net cut start t i by_then, add-one) at next
      | inr not_yet ↦
          let here : start_of start cut i ≡ suc t = omega (arith, started, not_yet) in
          rw (grid_row-start net cut start (suc t) i (omega (arith, here))) (subst (λ s. IsRowInBounds net s i (row_at start.rows i)) here ((fits.bounds i there).row))
    ]

-- what a cell holds is in bounds, from a step before its region's start on
pub held_in_bounds : (net : Network) (cut : List ℕ) (start : StartLists) (t i : ℕ) → IsNetwork net → Fits net cut start → i < length net.cells →
    start_of start cut i ≤ t + 1 → t ≤ net.steps → IsHeldInBounds net t i (grid_held net cut start t i)
held_in_bounds net cut start t i sound fits there near within = elim (past_or_before (start_of start cut i) t) [
  | inl by_then ↦ rw (grid_held-started net cut start t i by_then) ((stay_in_bounds net cut start sound fits t i there by_then within).held)
  | inr not_yet ↦
      let here : start_of start cut i ≡ t + 1 = omega (arith, near, not_yet) in
      rw (grid_held-earlier net cut start t i (omega (arith, here))) ((fits.bounds i there).earlier.later t here)
]

-- from a true start with lawful steps the rows are those of the recurrences
pub are_the_recurrences : (net : Network) (cut : List ℕ) (start : StartLists) → IsNetwork net → AreLawful net cut start.steps → IsTrueStart net cut start →
    AreTheRecurrences net cut start
are_the_recurrences net cut start sound lawful true_start = at
  where
    -- a cell around one whose region has started
    around : (t i j : ℕ) → ((j : ℕ) → j < length net.cells → start_of start cut j ≤ t → grid_row net cut start t j ≡ row_at (state_at net t) j) →
        start_of start cut i ≤ t → are_joined net.connectors i j ≡ true → grid_held net cut start t j ≡ occupancy (state_at net t) j
    around t i j same started joined = elim (past_or_before (start_of start cut j) t) [
      | inl by_then ↦ grid_held-started net cut start t j by_then ∙ ap (λ row. row.n) (same j (joined-there net i j sound joined).1 by_then)
      | inr not_yet ↦
          let differ : region_at cut j ≢ region_at cut i = λ equal. omega (arith, started, not_yet, ap (slice_index start.steps) equal) in
          let near = lawful.close (region_at cut j) (region_at cut i) (neighbours-sym net.connectors cut (region_at cut i) (region_at cut j) (joined-neighbours net.connectors cut i j joined differ)) in
          let here : start_of start cut j ≡ t + 1 = omega (arith, started, not_yet, near) in
          let border = halo-border net.connectors cut (region_at cut i) j (joined-halo net.connectors cut i j joined differ) in
          grid_held-earlier net cut start t j (omega (arith, here)) ∙ true_start.earlier j t (joined-there net i j sound joined).1 border here
    ]

    at : (t i : ℕ) → i < length net.cells → start_of start cut i ≤ t → grid_row net cut start t i ≡ row_at (state_at net t) i
    at zero i there started =
        let here : start_of start cut i ≡ 0 = omega (arith, started) in
        grid_row-start net cut start 0 i (omega arith) ∙ true_start.rows i there ∙ ap (λ s. row_at (state_at net s) i) here
    at (suc t) i there started = elim (past_or_before (start_of start cut i) t) [
      | inl by_then ↦
          let step : grid_row net cut start (t + 1) i ≡ row_at (state_at net (t + 1)) i =
          grid_row-next net cut start t i by_then ∙
          next_row-local net t i (grid_held net cut start t) (occupancy (state_at net t)) (grid_row net cut start t i) (λ j joined. around t i j (at t) by_then joined) ∙
          ap (next_row net t (occupancy (state_at net t)) i) (at t i there by_then) ∙ sym (row_at-state_at-next net t i there) in
          rw add-one at step
      | inr not_yet ↦
          let here : start_of start cut i ≡ suc t = omega (arith, started, not_yet) in
          grid_row-start net cut start (suc t) i (omega (arith, here)) ∙ true_start.rows i there ∙ ap (λ s. row_at (state_at net s) i) here
    ]
