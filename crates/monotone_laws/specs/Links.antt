-- Networks of links alone.
use Rattle.std.specs.Prelude.{◌≡◌, Bool, true, false, All}
use Rattle.network_file.specs.Network.{Network}
use Rattle.network_file.specs.declared.connector.Connector.{Connector}
use Rattle.network_file.specs.declared.connector.Connector.TheVariants.{Link, Merge, Diverge}

abbrev pub is_link : Connector → Bool
is_link (Link up down) = true
is_link (Merge up1 up2 down p1 p2) = false
is_link (Diverge up down1 down2 b1 b2) = false

-- every connector is a link
abbrev pub HasLinksAlone : Network → Type 0
HasLinksAlone net = All (λ connector. is_link connector ≡ true) net.connectors
