-- Three cells of a connector.
use Rattle.std.specs.Prelude.{ℕ, List, [], ◌∷◌}
use Rattle.network_file.specs.declared.connector.Connector.{Connector}
use Rattle.network_file.specs.declared.connector.Connector.TheVariants.{Link, Merge, Diverge}

-- its cells in the order of its fields; the cell downstream of a link stands twice
abbrev pub three_cells : Connector → List ℕ
three_cells (Link up down) = up ∷ down ∷ down ∷ []
three_cells (Merge up1 up2 down p1 p2) = up1 ∷ up2 ∷ down ∷ []
three_cells (Diverge up down1 down2 b1 b2) = up ∷ down1 ∷ down2 ∷ []
