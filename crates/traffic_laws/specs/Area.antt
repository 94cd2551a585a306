-- The area between the curves of a cell, which is the wait in it.
use Rattle.std.specs.Prelude.{◌≡◌, ℕ, ◌+◌, ◌-◌, List, ℤ, pos, ◌-ℤ◌, length, slice_index, sum_by}
use Rattle.std.specs.List.{range_with_len}
use Rattle.network_file.specs.Network.{Network}
use Rattle.flow_model.specs.State.{row_at, state_at}
use Rattle.traffic_laws.specs.Curves.{AreCurvesOf, DepartsAfterArriving}

-- the area under a curve over its first steps, each one step wide
abbrev pub area_under : (curve : ℕ → ℕ) → (steps : ℕ) → ℕ
area_under curve steps = sum_by curve (range_with_len 0 steps)

-- between what has arrived by each step and what has departed by the next one, up to the last step of the curves
unfoldable pub area_between : (first : ℕ) → (come gone : List ℕ) → ℤ
area_between first come gone =
    let steps = length come - 1 in
    pos (area_under (λ s. first + slice_index come s) steps) -ℤ pos (area_under (λ s. slice_index gone (s + 1)) steps)

-- of the curves of a cell, the area is what has waited in it by their last step
abbrev pub IsWaitOfCell : (first : ℕ) → (come gone : List ℕ) → (area : ℤ) → Type 0
IsWaitOfCell first come gone area =
    (net : Network) (i : ℕ) → AreCurvesOf net i first come gone → area ≡ pos ((row_at (state_at net (length come - 1)) i).wait)

-- and nothing departs from the cell that hadn't arrived a step before, so no strip of the area is below 0
abbrev pub NeverCross : (first : ℕ) → (come gone : List ℕ) → Type 0
NeverCross first come gone = (net : Network) (i : ℕ) → AreCurvesOf net i first come gone → DepartsAfterArriving first come gone
