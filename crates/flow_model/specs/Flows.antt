-- What moves in a step, by what the cells hold.
use Rattle.std.specs.Prelude.{ℕ, ◌==◌, ◌+◌, List, [], ◌∷◌, map, min, slice_index, sum_by, if◌then◌else◌}
use Rattle.merge_rule.specs.Merge.{merge_of}
use Rattle.diverge_rule.specs.Diverge.{diverge_of}
use Rattle.step_plan.specs.Demand.{demand_at}
use Rattle.step_plan.specs.Turning.{shares_at}
use Rattle.network_file.specs.Cells.{is_gate_at}
use Rattle.network_file.specs.Connectors.{cells_of, upstream_of, downstream_of}
use Rattle.network_file.specs.Network.{Network}
use Rattle.network_file.specs.declared.connector.Connector.{Connector}
use Rattle.network_file.specs.declared.connector.Connector.TheVariants.{Link, Merge, Diverge}
use Rattle.flow_model.specs.Limits.{sending_at, receiving_at}
use Rattle.flow_model.specs.declared.carried.Flow.{Flow}

-- what a link carries from a cell that can send s to one that can receive r
abbrev pub link_carries : (s r : ℕ) → Flow
link_carries s r = let carried = min s r in record { out1 = carried; out2 = 0; in1 = carried; in2 = 0 }

-- what a merge carries
abbrev pub merge_carries : (s1 s2 r p1 p2 : ℕ) → Flow
merge_carries s1 s2 r p1 p2 =
    let sent = merge_of s1 s2 r p1 p2 in record { out1 = sent.0; out2 = sent.1; in1 = sent.0 + sent.1; in2 = 0 }

-- what a diverge carries
abbrev pub diverge_carries : (s r1 r2 b1 b2 : ℕ) → Flow
diverge_carries s r1 r2 b1 b2 =
    let split = diverge_of s r1 r2 b1 b2 in record { out1 = split.out; out2 = 0; in1 = split.to1; in2 = split.to2 }

-- what a connector carries in step t where its cells hold these amounts, in the order of its fields; a diverge by its shares
-- of that step
abbrev pub flow_between : Network → (t : ℕ) → Connector → (held : List ℕ) → Flow
flow_between net t (Link up down) held =
    link_carries (sending_at net t up (slice_index held 0)) (receiving_at net t down (slice_index held 1))
flow_between net t (Merge up1 up2 down p1 p2) held =
    merge_carries (sending_at net t up1 (slice_index held 0)) (sending_at net t up2 (slice_index held 1))
    (receiving_at net t down (slice_index held 2)) p1 p2
flow_between net t (Diverge up down1 down2 b1 b2) held =
    let shares = shares_at net.plan up t (b1, b2) in
    diverge_carries (sending_at net t up (slice_index held 0)) (receiving_at net t down1 (slice_index held 1))
    (receiving_at net t down2 (slice_index held 2)) shares.0 shares.1

-- what a connector carries in step t where each cell i holds n i
unfoldable pub flow_of : Network → (t : ℕ) → (n : ℕ → ℕ) → Connector → Flow
flow_of net t n connector = flow_between net t connector (map n (cells_of connector))

-- the sum of the amounts of cell i, where each amount in the one list is that of the cell at its place in the other
abbrev pub amount_beside : (i : ℕ) → (cells amounts : List ℕ) → ℕ
amount_beside i [] amounts = 0
amount_beside i (cell ∷ cells) [] = 0
amount_beside i (cell ∷ cells) (amount ∷ amounts) = (if i == cell then amount else 0) + amount_beside i cells amounts

-- what leaves cell i by a connector with this flow
abbrev pub leaving : (i : ℕ) → Connector → Flow → ℕ
leaving i connector flow = amount_beside i (upstream_of connector) (flow.out1 ∷ flow.out2 ∷ [])

-- what enters cell i by a connector with this flow
abbrev pub entering : (i : ℕ) → Connector → Flow → ℕ
entering i connector flow = amount_beside i (downstream_of connector) (flow.in1 ∷ flow.in2 ∷ [])

-- what leaves cell i in step t
unfoldable pub outflow : Network → (t : ℕ) → (n : ℕ → ℕ) → (i : ℕ) → ℕ
outflow net t n i = sum_by (λ connector. leaving i connector (flow_of net t n connector)) net.connectors

-- what enters cell i in step t: the demand of a gate, and else what the connectors bring
unfoldable pub inflow : Network → (t : ℕ) → (n : ℕ → ℕ) → (i : ℕ) → ℕ
inflow net t n i =
    if is_gate_at net.cells i then demand_at net.plan i t
    else sum_by (λ connector. entering i connector (flow_of net t n connector)) net.connectors
