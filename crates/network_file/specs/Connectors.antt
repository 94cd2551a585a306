-- The cells of a connector, told here for every kind of it.
use Rattle.std.specs.Prelude.{ℕ, Bool, false, ◌==◌, eqb, ◌&&◌, List, [], ◌∷◌, ◌++◌}
use Rattle.std.specs.List.{list_any}
use Rattle.network_file.specs.declared.connector.Connector.{Connector}
use Rattle.network_file.specs.declared.connector.Connector.TheVariants.{Link, Merge, Diverge}

-- the cells upstream of a connector, in the order of its fields
abbrev pub upstream_of : Connector → List ℕ
upstream_of (Link up down) = up ∷ []
upstream_of (Merge up1 up2 down p1 p2) = up1 ∷ up2 ∷ []
upstream_of (Diverge up down1 down2 b1 b2) = up ∷ []

-- the cells downstream of it
abbrev pub downstream_of : Connector → List ℕ
downstream_of (Link up down) = down ∷ []
downstream_of (Merge up1 up2 down p1 p2) = down ∷ []
downstream_of (Diverge up down1 down2 b1 b2) = down1 ∷ down2 ∷ []

-- all its cells, in the order of its fields
abbrev pub cells_of : Connector → List ℕ
cells_of connector = upstream_of connector ++ downstream_of connector

abbrev pub leads_out_of : (cell : ℕ) → Connector → Bool
leads_out_of cell connector = list_any (eqb cell) (upstream_of connector)

abbrev pub leads_into : (cell : ℕ) → Connector → Bool
leads_into cell connector = list_any (eqb cell) (downstream_of connector)

-- whether it is a diverge out of the cell
abbrev pub diverges_from : (cell : ℕ) → Connector → Bool
diverges_from cell (Link up down) = false
diverges_from cell (Merge up1 up2 down p1 p2) = false
diverges_from cell (Diverge up down1 down2 b1 b2) = cell == up

-- whether the cell is one of the connector's
abbrev pub touches : (cell : ℕ) → Connector → Bool
touches cell connector = list_any (eqb cell) (cells_of connector)

-- whether one connector touches both cells
abbrev pub are_joined : List Connector → (i j : ℕ) → Bool
are_joined connectors i j = list_any (λ connector. touches i connector && touches j connector) connectors
