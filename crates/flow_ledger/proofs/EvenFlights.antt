-- At one step, what has gone out of the cells upstream of a connector is what has come into those downstream.
use Rattle.std.specs.Prelude.{All, sum_by}
use Rattle.std.proofs.Common.{◌≡◌, ℕ, zero, suc, add-one, ◌+◌, ◌<◌, List, length, arith, refl, ◌∙◌}
use Rattle.step_plan.proofs.Sums.{sum_by-same, sum_by-zero, sum_by_splits}
use Rattle.network_file.specs.Connectors.{downstream_of, upstream_of}
use Rattle.network_file.specs.Numbered.{connector_at}
use Rattle.network_file.specs.Network.{Network}
use Rattle.network_file.specs.Sound.{IsNetwork, IsSoundConnector}
use Rattle.network_file.specs.declared.connector.Connector.{Connector}
use Rattle.network_file.proofs.NetworkFacts.{connector_at-sound}
use Rattle.flow_model.specs.State.{occupancy, state_at}
use Rattle.flow_model.proofs.CellFlows.{connector-conserves}
use Rattle.flow_ledger.specs.Flight.{gone_of}
use Rattle.flow_ledger.specs.Books.{come_of}
use Rattle.flow_ledger.specs.FlightLaw.{enters, leaves}
use Rattle.flow_ledger.proofs.StateRows.{come-next, come-zero, gone-next, gone-zero}

-- these cells are there
abbrev pub AreThere : Network → (cells : List ℕ) → Type 0
AreThere net cells = All (λ i. i < length net.cells) cells

pub upstream-there : (net : Network) (connector : Connector) → IsSoundConnector net.cells connector → AreThere net (upstream_of connector)
upstream-there net connector sound = λ j d within. (sound.up j d within).0

pub downstream-there : (net : Network) (connector : Connector) → IsSoundConnector net.cells connector → AreThere net (downstream_of connector)
downstream-there net connector sound = λ j d within. (sound.down j d within).0

-- what these cells have had after one step more
gone-next-all : (net : Network) (t : ℕ) (cells : List ℕ) → AreThere net cells →
    sum_by (gone_of (state_at net (t + 1))) cells ≡ sum_by (gone_of (state_at net t)) cells + sum_by (leaves net t) cells
gone-next-all net t cells there =
    sum_by-same (λ i. i < length net.cells) (gone_of (state_at net (t + 1))) (λ i. gone_of (state_at net t) i + leaves net t i) cells (gone-next net t) there ∙
    sum_by_splits (λ i. gone_of (state_at net t) i + leaves net t i) (gone_of (state_at net t)) (leaves net t) cells (λ i. refl)

come-next-all : (net : Network) (t : ℕ) (cells : List ℕ) → AreThere net cells →
    sum_by (come_of (state_at net (t + 1))) cells ≡ sum_by (come_of (state_at net t)) cells + sum_by (enters net t) cells
come-next-all net t cells there =
    sum_by-same (λ i. i < length net.cells) (come_of (state_at net (t + 1))) (λ i. come_of (state_at net t) i + enters net t i) cells (come-next net t) there ∙
    sum_by_splits (λ i. come_of (state_at net t) i + enters net t i) (come_of (state_at net t)) (enters net t) cells (λ i. refl)

gone-zero-all : (net : Network) (cells : List ℕ) → AreThere net cells → sum_by (gone_of (state_at net 0)) cells ≡ 0
gone-zero-all net cells there =
    sum_by-same (λ i. i < length net.cells) (gone_of (state_at net 0)) (λ i. 0) cells (gone-zero net) there ∙ sum_by-zero (λ i. 0) cells (λ k d within. omega arith)

come-zero-all : (net : Network) (cells : List ℕ) → AreThere net cells → sum_by (come_of (state_at net 0)) cells ≡ 0
come-zero-all net cells there =
    sum_by-same (λ i. i < length net.cells) (come_of (state_at net 0)) (λ i. 0) cells (come-zero net) there ∙ sum_by-zero (λ i. 0) cells (λ k d within. omega arith)

pub even : (net : Network) (t k : ℕ) → IsNetwork net → k < length net.connectors →
    sum_by (gone_of (state_at net t)) (upstream_of (connector_at net.connectors k)) ≡ sum_by (come_of (state_at net t)) (downstream_of (connector_at net.connectors k))
even net zero k sound there =
    let connector : Connector = connector_at net.connectors k in
    let fits = connector_at-sound net k sound there in
    omega (
      arith,
      gone-zero-all net (upstream_of connector) (upstream-there net connector fits),
      come-zero-all net (downstream_of connector) (downstream-there net connector fits),
    )
even net (suc t) k sound there =
    let connector : Connector = connector_at net.connectors k in
    let fits = connector_at-sound net k sound there in
    omega (
      arith,
      rw add-one at (gone-next-all net t (upstream_of connector) (upstream-there net connector fits)),
      rw add-one at (come-next-all net t (downstream_of connector) (downstream-there net connector fits)),
      connector-conserves net t k (occupancy (state_at net t)) sound there,
      even net t k sound there,
    )
