-- Which cells stand on each side of a connector, and which cells a cell shares a connector with.
use Rattle.std.specs.Prelude.{◌≡◌, ℕ, ◌<◌, Bool, true, false, not, eqb, ◌&&◌, ◌||◌, nat_lt, List, [], ◌∷◌, length, get_or, All}
use Rattle.std.specs.List.{list_any}
use Rattle.network_file.specs.Connectors.{are_joined, cells_of, downstream_of, touches, upstream_of}
use Rattle.network_file.specs.Numbered.{connector_at}
use Rattle.network_file.specs.declared.connector.Connector.{Connector}
use Rattle.network_file.specs.declared.connector.Connector.TheVariants.{Link, Merge, Diverge}
use Rattle.cut_grow.specs.declared.side.Side.{Side}
use Rattle.cut_grow.specs.declared.side.Side.TheVariants.{Upstream, Downstream}

-- the cells of a connector on a side
abbrev pub side_of : Side → Connector → List ℕ
side_of Upstream connector = upstream_of connector
side_of Downstream connector = downstream_of connector

abbrev pub has_on : Side → (cell : ℕ) → Connector → Bool
has_on side cell connector = list_any (eqb cell) (side_of side connector)

-- two cells of a side; one alone stands twice
abbrev pub two_cells : Side → Connector → List ℕ
two_cells Upstream (Link up down) = up ∷ up ∷ []
two_cells Upstream (Merge up1 up2 down p1 p2) = up1 ∷ up2 ∷ []
two_cells Upstream (Diverge up down1 down2 b1 b2) = up ∷ up ∷ []
two_cells Downstream (Link up down) = down ∷ down ∷ []
two_cells Downstream (Merge up1 up2 down p1 p2) = down ∷ down ∷ []
two_cells Downstream (Diverge up down1 down2 b1 b2) = down1 ∷ down2 ∷ []

-- the connectors' cells are there
abbrev pub AreThere : (cells : ℕ) → List Connector → Type 0
AreThere cells connectors = All (λ connector. All (λ i. i < cells) (cells_of connector)) connectors

-- for each cell a connector, of the first so many, that has it on this side, where there is one
pub record IsSideTable (side : Side) (cells : ℕ) (connectors : List Connector) (first : ℕ) (table : List ℕ) : Type 0 where
  pub one_each : length table ≡ cells
  pub told : (i : ℕ) → i < cells → get_or table i 0 < length connectors → has_on side i (connector_at connectors (get_or table i 0)) ≡ true
  pub all : (i k : ℕ) → i < cells → k < first → has_on side i (connector_at connectors k) ≡ true → get_or table i 0 < length connectors

-- there is a connector of this number, and it touches cell i
abbrev pub touches_at : List Connector → (k i : ℕ) → Bool
touches_at connectors k i = nat_lt k (length connectors) && touches i (connector_at connectors k)

-- two tables by which each cell shares a connector with exactly the cells of two connectors
pub record AreJoints (cells : ℕ) (connectors : List Connector) (out into : List ℕ) : Type 0 where
  pub each_out : length out ≡ cells
  pub each_into : length into ≡ cells
  pub joins : (x i : ℕ) → x < cells → are_joined connectors x i ≡ (touches_at connectors (get_or out x 0) i || touches_at connectors (get_or into x 0) i)

-- cell i isn't marked as placed
abbrev pub is_free : (placed : List Bool) → (i : ℕ) → Bool
is_free placed i = not (get_or placed i false)

-- no free cell shares a connector with cell x
abbrev pub IsClosed : List Connector → (placed : List Bool) → (x : ℕ) → Type 0
IsClosed connectors placed x = (i : ℕ) → i < length placed → (is_free placed i && are_joined connectors x i) ≡ false

-- some free cell does
abbrev pub IsOpen : List Connector → (placed : List Bool) → (x : ℕ) → Type 0
IsOpen connectors placed x = (i : ℕ) × (i < length placed) × ((is_free placed i && are_joined connectors x i) ≡ true)
