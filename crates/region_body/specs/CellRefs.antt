-- Where a region finds the cells of its connectors.
use Rattle.std.specs.Prelude.{◌==◌, ⊤, ℕ, ◌<◌, ◌+◌, Bool, List, Option, None, length, slice_index, slice_index_or, unwrap_or, if◌then◌else◌}
use Rattle.network_file.specs.declared.connector.Connector.{Connector}
use Rattle.step_plan.specs.Speeds.{arriving}
use Rattle.region_cut.specs.ConnectorCells.{three_cells}
use Rattle.region_body.specs.Joining.{IsPlacedAt}
use Rattle.cell_sweep.specs.CellStates.{cell_state_at}
use Rattle.cell_sweep.specs.Speeds.{ratio_at}
use Rattle.region_body.specs.declared.cell_ref.CellRef.{CellRef}
use Rattle.region_body.specs.declared.cell_ref.CellRef.TheVariants.{Own, Halo}
use Rattle.cell_sweep.specs.declared.cell_state.CellState.{CellState}

-- cell i is found so, among the region's own and those of its halo
abbrev pub IsRefOf : (cells halo : List ℕ) → (i : ℕ) → CellRef → Type 0
IsRefOf cells halo i (Own p) = IsPlacedAt cells i p
IsRefOf cells halo i (Halo j) = IsPlacedAt halo i j

-- the m-th of three
abbrev pub ref_at : List CellRef → (m : ℕ) → CellRef
ref_at refs m = slice_index_or refs m (Own 0)

-- the cells of the connector are found so
abbrev pub AreRefsOf : (cells halo : List ℕ) → Connector → List CellRef → Type 0
AreRefsOf cells halo connector refs = (m : ℕ) → m < 3 → IsRefOf cells halo (slice_index (three_cells connector) m) (ref_at refs m)

-- the cell is there, where the region has so many of its own and so much was put for its halo
abbrev pub IsWithin : (count : ℕ) → (put : List (Option ℕ)) → CellRef → Type 0
IsWithin count put (Own p) = p < count
IsWithin count put (Halo j) = j < length put

-- a cell of the region's own is there; of the halo nothing is written
abbrev pub CanBeWritten : (count : ℕ) → CellRef → Type 0
CanBeWritten count (Own p) = p < count
CanBeWritten count (Halo j) = ⊤

-- what was put for the j-th cell of the halo
abbrev pub put_at : (put : List (Option ℕ)) → (j : ℕ) → ℕ
put_at put j = unwrap_or (slice_index_or put j None) 0

-- what a cell holds now
abbrev pub held_in : List CellState → (put : List (Option ℕ)) → CellRef → ℕ
held_in states put (Own p) = (cell_state_at states p).n
held_in states put (Halo j) = put_at put j

-- and what it held as the step began
abbrev pub held_before : (before : List ℕ) → (put : List (Option ℕ)) → CellRef → ℕ
held_before before put (Own p) = slice_index before p
held_before before put (Halo j) = put_at put j

-- the place of a cell's speed in a list that has the speeds of so many own cells, and then those of the halo
abbrev pub speed_place : (count : ℕ) → CellRef → ℕ
speed_place count (Own p) = p
speed_place count (Halo j) = count + j

-- of what a cell holds, what a connector is given: what comes to the end of the cell, where it sends, and else all
abbrev pub given_of : (speeds : List (ℕ × ℕ)) → (count : ℕ) → (held : CellRef → ℕ) → (sends : Bool) → CellRef → ℕ
given_of speeds count held sends cell = if sends then arriving (ratio_at speeds (speed_place count cell)) (held cell) else held cell

-- the same of what cells hold now, and of what they held as the step began
abbrev pub given_now : (speeds : List (ℕ × ℕ)) → List CellState → (put : List (Option ℕ)) → (sends : Bool) → CellRef → ℕ
given_now speeds states put = given_of speeds (length states) (held_in states put)

abbrev pub given_before : (speeds : List (ℕ × ℕ)) → (before : List ℕ) → (put : List (Option ℕ)) → (sends : Bool) → CellRef → ℕ
given_before speeds before put = given_of speeds (length before) (held_before before put)

-- of so many parts of a cell those at place p
abbrev pub parts_at : CellRef → (parts p : ℕ) → ℕ
parts_at (Own own) parts p = if own == p then parts else 0
parts_at (Halo j) parts p = 0
