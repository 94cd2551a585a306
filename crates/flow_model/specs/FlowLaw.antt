-- The law of a connector's flow: no cell sends more than it can, and none receives more than it can.
use Rattle.std.specs.Prelude.{ℕ, ◌+◌, ◌<◌, ◌≤◌, List, [], ◌∷◌, length, slice_index}
use Rattle.network_file.specs.Connectors.{upstream_of, downstream_of}
use Rattle.network_file.specs.Network.{Network}
use Rattle.network_file.specs.declared.connector.Connector.{Connector}
use Rattle.flow_model.specs.Limits.{sending_at, receiving_at}
use Rattle.flow_model.specs.declared.carried.Flow.{Flow}

-- what leaves each cell upstream is at most what it can send, where the connector's cells hold n
abbrev pub SendsAtMost : Network → (t : ℕ) → Connector → (n : List ℕ) → Flow → Type 0
SendsAtMost net t connector n flow =
    (j : ℕ) → j < length (upstream_of connector) →
    slice_index (flow.out1 ∷ flow.out2 ∷ []) j ≤ sending_at net t (slice_index (upstream_of connector) j) (slice_index n j)

-- what enters each cell downstream is at most what it can receive; these come behind those upstream in n
abbrev pub ReceivesAtMost : Network → (t : ℕ) → Connector → (n : List ℕ) → Flow → Type 0
ReceivesAtMost net t connector n flow =
    (j : ℕ) → j < length (downstream_of connector) →
    slice_index (flow.in1 ∷ flow.in2 ∷ []) j ≤
    receiving_at net t (slice_index (downstream_of connector) j) (slice_index n (length (upstream_of connector) + j))
