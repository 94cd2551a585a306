-- The rows of cells that are placed in another order than their own.
use Rattle.std.specs.Prelude.{◌≡◌, ℕ, ◌<◌, List, Option, None, length, map, slice_index, slice_index_or, unwrap_or}
use Rattle.network_file.specs.Network.{Network}
use Rattle.flow_model.specs.Bounds.{IsHeldInBounds, IsRowInBounds}
use Rattle.flow_model.specs.State.{occupancy, row_at}
use Rattle.flow_model.specs.declared.row.Row.{Row}
use Rattle.chain_order.specs.Order.{IsOrder, OrderLists}
use Rattle.region_body.specs.Placed.{ArePlaced, PlacedCells}
use Rattle.region_body.specs.Rows.{rows_of}

pub record OrderedCells : Type 0 where
  -- the cells as they are placed
  pub placed : PlacedCells
  -- and their order
  pub order : OrderLists

-- each cell's place has its row and what was held there a step before
abbrev pub HavePlaces : OrderedCells → Type 0
HavePlaces cells = (m : ℕ) → m < length cells.order.places →
    (slice_index cells.order.places m < length cells.placed.constants) × (slice_index cells.order.places m < length cells.placed.before)

-- a row for each cell, in the order of the cells
abbrev pub rows_in : OrderedCells → List Row
rows_in cells = map (row_at (rows_of cells.placed.constants cells.placed.states)) cells.order.places

-- and what each held a step before
abbrev pub before_in : OrderedCells → List ℕ
before_in cells = map (slice_index cells.placed.before) cells.order.places

-- these cells stand so as step t begins
pub record AreOrdered (net : Network) (cells halo connectors : List ℕ) (t : ℕ) (ordered : OrderedCells) : Type 0 where
  pub order : IsOrder cells ordered.order
  pub placed : ArePlaced net ordered.order.placed halo connectors t ordered.placed

-- all that a step stands on; the cells hold n as it begins
pub record CanStep (net : Network) (cells : List ℕ) (t : ℕ) (ordered : OrderedCells) (put : List (Option ℕ)) : Type 0 where
  pub halo : List ℕ
  pub connectors : List ℕ
  pub n : ℕ → ℕ
  pub laid : AreOrdered net cells halo connectors t ordered
  pub bounds : (m : ℕ) → m < length cells → IsRowInBounds net t (slice_index cells m) (row_at (rows_in ordered) m)
  pub seen : (m : ℕ) → m < length cells → n (slice_index cells m) ≡ occupancy (rows_in ordered) m
  pub put_each : length put ≡ length halo
  pub put_bounds : (j : ℕ) → j < length halo → IsHeldInBounds net t (slice_index halo j) (unwrap_or (slice_index_or put j None) 0)
  pub put_seen : (j : ℕ) → j < length halo → n (slice_index halo j) ≡ unwrap_or (slice_index_or put j None) 0
