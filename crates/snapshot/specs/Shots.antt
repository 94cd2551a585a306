-- What holds of each shot of a run that is watched.
use Rattle.std.specs.Prelude.{◌≡◌, ℕ, ◌*◌, ◌/◌, ◌<◌, ◌≤◌, false, List, ℤ, pos, ◌+ℤ◌, ◌-ℤ◌, length, map, slice_index}
use Rattle.std.specs.List.{filter, fold, range_with_len}
use Rattle.network_file.specs.Numbered.{connector_at}
use Rattle.network_file.specs.Network.{Network}
use Rattle.flow_model.specs.Bounds.{KeepsRooms}
use Rattle.flow_model.specs.State.{row_at, state_at}
use Rattle.flow_model.specs.declared.row.Row.{Row}
use Rattle.flow_ledger.specs.Balances.{books_of}
use Rattle.flow_ledger.specs.Flight.{flight_of}
use Rattle.flow_ledger.specs.declared.network_books.Books.{Books}
use Rattle.region_cut.specs.Cuttings.{region_at, region_count}
use Rattle.region_cut.specs.LawfulSteps.{AreLawful}
use Rattle.region_cut.specs.Joins.{crosses}

-- goal i of so many shots: the goals divide the steps evenly, rounded down
abbrev pub goal_of : (steps shots i : ℕ) → ℕ
goal_of steps shots i = i * steps / shots

-- each cell's row of the plain recurrences at the step of its region
unfoldable pub rows_at : Network → (cut steps : List ℕ) → List Row
rows_at net cut steps = map (λ i. row_at (state_at net (slice_index steps (region_at cut i))) i) (range_with_len 0 (length net.cells))

-- no vehicle is lost and none made: what is inside and what is under way are what was there at first and what entered,
-- less what left
abbrev pub IsBalanced : Books → Type 0
IsBalanced books = books.inside +ℤ books.flight ≡ books.initial +ℤ books.entered -ℤ books.left

-- the connectors that touch cells of more than one region, in the order of the file
abbrev pub crossing : Network → (cut : List ℕ) → List ℕ
crossing net cut = filter (λ k. crosses cut (connector_at net.connectors k)) (range_with_len 0 (length net.connectors))

-- what is under way at these, together
unfoldable pub flights_crossing : Network → (cut : List ℕ) → List Row → ℤ
flights_crossing net cut rows = fold (λ sum k. sum +ℤ flight_of net rows k) (pos 0) (crossing net cut)

-- steps of the regions between two goals
pub record AreStepsBetween (net : Network) (cut : List ℕ) (from to : ℕ) (steps : List ℕ) : Type 0 where
  -- neighbouring regions stand at most one step apart
  pub lawful : AreLawful net cut steps
  -- none stands before the one goal or past the other
  pub between : (r : ℕ) → r < region_count cut → (from ≤ slice_index steps r) × (slice_index steps r ≤ to)

-- what the books and flights of rows come to where each row is that of the plain recurrences at its own region's step
pub record KeepsBooks (net : Network) (cut : List ℕ) (rows : List Row) : Type 0 where
  -- the books balance with what is under way
  pub balanced : IsBalanced (books_of net rows)
  -- nothing is under way within a region, so that the flights that are shown add up to that of the books
  pub none_within : (k : ℕ) → k < length net.connectors → crosses cut (connector_at net.connectors k) ≡ false → flight_of net rows k ≡ pos 0
  pub in_flight : flights_crossing net cut rows ≡ (books_of net rows).flight

-- a shot between two goals: at which steps it may show the regions, and what follows for its rows
pub record IsShotBetween (net : Network) (cut : List ℕ) (from to : ℕ) (steps : List ℕ) : Type 0 where
  pub stand : AreStepsBetween net cut from to steps
  pub books : KeepsBooks net cut (rows_at net cut steps)
  -- no road holds more than its room
  pub rooms : KeepsRooms net (rows_at net cut steps)
