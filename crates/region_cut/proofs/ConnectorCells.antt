-- The cells of a network's connectors.
use Rattle.std.specs.Prelude.{All, eqb}
use Rattle.std.specs.List.{Contains, list_any}
use Rattle.std.proofs.Common.{◌≡◌, ℕ, ◌<◌, Bool, true, List, length, get_or, ap, subst, sym, ◌∙◌}
use Rattle.std.proofs.lemmas.List.Elements.{All-contains, Contains-get_or}
use Rattle.network_file.specs.Connectors.{cells_of, touches}
use Rattle.network_file.specs.Numbered.{connector_at}
use Rattle.network_file.specs.Network.{Network}
use Rattle.network_file.specs.Sound.{IsNetwork, IsSoundConnector}
use Rattle.network_file.specs.declared.connector.Connector.{Connector}
use Rattle.network_file.specs.declared.connector.Connector.TheVariants.{Link}
use Rattle.network_file.proofs.NetworkFacts.{cells_there, read_connector}
use Rattle.region_cut.proofs.Anys.{Contains-from_test, test_from_Contains}

pub touches-there : (net : Network) (connector : Connector) (i : ℕ) → IsNetwork net → Contains net.connectors connector → touches i connector ≡ true → i < length net.cells
touches-there net connector i sound has touched =
    All-contains (λ j. j < length net.cells) (cells_of connector) i
    (cells_there net.cells connector (All-contains (IsSoundConnector net.cells) net.connectors connector sound.sound.sound_connectors has))
    (Contains-from_test (cells_of connector) i touched)

-- a list in which each cell of a connector is found, and no other
pub same_cells-there : (net : Network) (k : ℕ) (cells : List ℕ) → IsNetwork net → k < length net.connectors →
    ((test : ℕ → Bool) → list_any test cells ≡ list_any test (cells_of (connector_at net.connectors k))) → All (λ i. i < length net.cells) cells
same_cells-there net k cells sound there same = λ j d within.
    let i : ℕ = get_or cells j d in
    let touched : touches i (connector_at net.connectors k) ≡ true = sym (same (eqb i)) ∙ test_from_Contains cells i (Contains-get_or cells j d within) in
    touches-there net (connector_at net.connectors k) i sound (Contains-get_or net.connectors k (Link 0 0) there) touched

-- the cells that were taken of connector `k` of a sound network
pub record AreTaken (net : Network) (k : ℕ) (cells : List ℕ) : Type 0 where
  pub sound : IsNetwork net
  pub there : k < length net.connectors
  pub same : (test : ℕ → Bool) → list_any test cells ≡ list_any test (cells_of (connector_at net.connectors k))

pub taken : {inside net : Network} {k : ℕ} {connector : Connector} {cells : List ℕ} → IsNetwork inside → inside ≡ net → k < length net.connectors →
    connector ≡ get_or inside.connectors k connector → ((test : ℕ → Bool) → list_any test cells ≡ list_any test (cells_of connector)) → AreTaken net k cells
taken {inside} {net} {k} {connector} {cells} sound is there read same =
    let own : connector_at net.connectors k ≡ connector = read_connector inside.connectors net.connectors k connector (ap (λ net. net.connectors) is) there read in
    record { sound = subst IsNetwork is sound; there = there; same = λ test. same test ∙ ap (λ other. list_any test (cells_of other)) (sym own) }

pub taken-there : {net : Network} {k n : ℕ} {cells : List ℕ} → AreTaken net k cells → n ≡ length net.cells → All (λ i. i < n) cells
taken-there {net} {k} {n} {cells} are one_each = subst (λ n. All (λ i. i < n) cells) (sym one_each) (same_cells-there net k cells are.sound are.there are.same)
