-- What a network says of what its plan says of a cell, for the crates above.
use Rattle.std.specs.Prelude.{All, ◌==◌, not}
use Rattle.std.proofs.Common.{◌≡◌, ℕ, ◌<◌, ◌≤◌, true, List, [], ◌∷◌, length, arith, subst, sym}
use Rattle.std.proofs.lemmas.List.{get_or_default}
use Rattle.step_plan.specs.Limits.{most_steps}
use Rattle.step_plan.specs.Records.{PlannedCell, SpeedRecord, bare_cell, records_at}
use Rattle.step_plan.specs.Sound.{IsSoundSpeed}
use Rattle.step_plan.specs.SpeedBounds.{has_speeds}
use Rattle.network_file.specs.Cells.{is_road_at}
use Rattle.network_file.specs.Network.{Network}
use Rattle.network_file.specs.Sound.{IsNetwork, IsPlannedCell}

-- what follows for each cell of the plan holds of all
pub all-planned : (P : PlannedCell → Type 0) (net : Network) → IsNetwork net → ((i : ℕ) (planned : PlannedCell) → IsPlannedCell net.cells i planned → P planned) →
    All P net.plan.cells
all-planned P net sound each = λ k d there.
    subst P (sym (get_or_default net.plan.cells k d (bare_cell 0) there))
    (each k _ (sound.sound.planned.planned k (omega (arith, there, sound.sound.planned.one_each))))

-- a cell that has speeds is a road
pub has_speeds-road : (net : Network) (i : ℕ) → IsNetwork net → i < length net.cells → has_speeds net.plan i ≡ true → is_road_at net.cells i ≡ true
unfolding has_speeds
has_speeds-road net i sound there has = by (records_at net.plan i).speeds (sound.sound.planned.planned i there).speeds has
  where
    by : (speeds : List SpeedRecord) → All (λ speed. (is_road_at net.cells i ≡ true) × (speed.to ≤ most_steps) × IsSoundSpeed speed) speeds →
        not (length speeds == 0) ≡ true → is_road_at net.cells i ≡ true
    by [] all some = cc some
    by (speed ∷ speeds) all some = (all 0 speed (omega arith)).0
