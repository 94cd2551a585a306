-- What the parts of a cell have waited. They are numbered as in Times.
use Rattle.std.specs.Prelude.{◌≡◌, ℕ, ◌+◌, ◌-◌, List, Option, None, Some, ℤ, pos, length, slice_index, sum_by}
use Rattle.std.specs.List.{range_with_len}
use Rattle.network_file.specs.Network.{Network}
use Rattle.traffic_laws.specs.Curves.{AreCurvesOf}
use Rattle.traffic_laws.specs.Times.{enters_at, leaves_at}

-- what a part has waited by step `last`: one that hasn't come for no step, one that is still there for each since it came,
-- and one that has gone for all that it took but one
abbrev pub steps_waited : (last : ℕ) → (enters leaves : Option ℕ) → ℕ
steps_waited last None leaves = 0
steps_waited last (Some came) None = last - came
steps_waited last (Some came) (Some went) = went - came - 1

-- that of all parts that have come by the last step of the curves together
unfoldable pub wait_of_parts : (first : ℕ) → (come gone : List ℕ) → ℕ
wait_of_parts first come gone =
    let last = length come - 1 in
    let parts = first + slice_index come last in
    sum_by (λ k. steps_waited last (enters_at first come k) (leaves_at gone k)) (range_with_len 0 parts)

-- of the curves of a cell, the area is what its parts have waited
abbrev pub IsWaitOfParts : (first : ℕ) → (come gone : List ℕ) → (area : ℤ) → Type 0
IsWaitOfParts first come gone area =
    (net : Network) (i : ℕ) → AreCurvesOf net i first come gone → area ≡ pos (wait_of_parts first come gone)
