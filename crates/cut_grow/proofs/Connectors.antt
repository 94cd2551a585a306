-- The cells of connectors: that they are there, and those that are read of one.
use Rattle.std.specs.Prelude.{All}
use Rattle.std.proofs.Common.{◌≡◌, ℕ, ◌<◌, List, [], ◌∷◌, length, get_or, refl, arith, sym, subst}
use Rattle.std.proofs.lemmas.List.{get_or_default}
use Rattle.network_file.specs.Connectors.{cells_of}
use Rattle.network_file.specs.Numbered.{connector_at}
use Rattle.network_file.specs.Network.{Network}
use Rattle.network_file.specs.Sound.{IsNetwork}
use Rattle.network_file.specs.declared.connector.Connector.{Connector}
use Rattle.network_file.specs.declared.connector.Connector.TheVariants.{Link, Merge, Diverge}
use Rattle.region_cut.proofs.ConnectorCells.{same_cells-there}
use Rattle.region_cut.specs.ConnectorCells.{three_cells}
use Rattle.cut_grow.specs.Sides.{AreThere, two_cells}
use Rattle.cut_grow.specs.declared.side.Side.{Side}
use Rattle.cut_grow.specs.declared.side.Side.TheVariants.{Upstream, Downstream}

-- the cells of a network's connectors are there
pub connectors-there : (net : Network) → IsNetwork net → AreThere (length net.cells) net.connectors
connectors-there net sound = λ k d within.
    subst (λ connector. All (λ i. i < length net.cells) (cells_of connector)) (get_or_default net.connectors k (Link 0 0) d within)
    (same_cells-there net k (cells_of (connector_at net.connectors k)) sound within (λ test. refl))

-- what holds of a connector's cells holds of the three that are read of it, and of the two of a side

three-each : (P : ℕ → Type 0) (connector : Connector) → All P (cells_of connector) →
    P (get_or (three_cells connector) 0 0) × P (get_or (three_cells connector) 1 0) × P (get_or (three_cells connector) 2 0)
three-each P (Link up down) all = (all 0 0 (omega arith), all 1 0 (omega arith), all 1 0 (omega arith))
three-each P (Merge up1 up2 down p1 p2) all = (all 0 0 (omega arith), all 1 0 (omega arith), all 2 0 (omega arith))
three-each P (Diverge up down1 down2 b1 b2) all = (all 0 0 (omega arith), all 1 0 (omega arith), all 2 0 (omega arith))

pub three-all : (P : ℕ → Type 0) (connector : Connector) (three : List ℕ) → three ≡ three_cells connector → All P (cells_of connector) →
    P (get_or three 0 0) × P (get_or three 1 0) × P (get_or three 2 0)
three-all P connector three is all =
    subst (λ cells. P (get_or cells 0 0) × P (get_or cells 1 0) × P (get_or cells 2 0)) (sym is) (three-each P connector all)

three-list : (connector : Connector) →
    three_cells connector ≡ get_or (three_cells connector) 0 0 ∷ get_or (three_cells connector) 1 0 ∷ get_or (three_cells connector) 2 0 ∷ []
three-list (Link up down) = refl
three-list (Merge up1 up2 down p1 p2) = refl
three-list (Diverge up down1 down2 b1 b2) = refl

pub three-is : (connector : Connector) (three : List ℕ) → three ≡ three_cells connector → three ≡ get_or three 0 0 ∷ get_or three 1 0 ∷ get_or three 2 0 ∷ []
three-is connector three is = subst (λ cells. cells ≡ get_or cells 0 0 ∷ get_or cells 1 0 ∷ get_or cells 2 0 ∷ []) (sym is) (three-list connector)

two-each : (P : ℕ → Type 0) (side : Side) (connector : Connector) → All P (cells_of connector) →
    P (get_or (two_cells side connector) 0 0) × P (get_or (two_cells side connector) 1 0)
two-each P Upstream (Link up down) all = (all 0 0 (omega arith), all 0 0 (omega arith))
two-each P Upstream (Merge up1 up2 down p1 p2) all = (all 0 0 (omega arith), all 1 0 (omega arith))
two-each P Upstream (Diverge up down1 down2 b1 b2) all = (all 0 0 (omega arith), all 0 0 (omega arith))
two-each P Downstream (Link up down) all = (all 1 0 (omega arith), all 1 0 (omega arith))
two-each P Downstream (Merge up1 up2 down p1 p2) all = (all 2 0 (omega arith), all 2 0 (omega arith))
two-each P Downstream (Diverge up down1 down2 b1 b2) all = (all 1 0 (omega arith), all 2 0 (omega arith))

pub two-all : (P : ℕ → Type 0) (side : Side) (connector : Connector) (two : List ℕ) → two ≡ two_cells side connector → All P (cells_of connector) →
    P (get_or two 0 0) × P (get_or two 1 0)
two-all P side connector two is all = subst (λ cells. P (get_or cells 0 0) × P (get_or cells 1 0)) (sym is) (two-each P side connector all)

two-list : (side : Side) (connector : Connector) → two_cells side connector ≡ get_or (two_cells side connector) 0 0 ∷ get_or (two_cells side connector) 1 0 ∷ []
two-list Upstream (Link up down) = refl
two-list Upstream (Merge up1 up2 down p1 p2) = refl
two-list Upstream (Diverge up down1 down2 b1 b2) = refl
two-list Downstream (Link up down) = refl
two-list Downstream (Merge up1 up2 down p1 p2) = refl
two-list Downstream (Diverge up down1 down2 b1 b2) = refl

pub two-is : (side : Side) (connector : Connector) (two : List ℕ) → two ≡ two_cells side connector → two ≡ get_or two 0 0 ∷ get_or two 1 0 ∷ []
two-is side connector two is = subst (λ cells. cells ≡ get_or cells 0 0 ∷ get_or cells 1 0 ∷ []) (sym is) (two-list side connector)
