-- What one connector carries: what leaves in all is what enters in all, and each cell keeps its limit.
use Rattle.std.specs.Prelude.{All, eqb, map, slice_index, if◌then◌else◌, ◌==◌, ◌||◌}
use Rattle.std.specs.List.{AllByRecursion, IsDistinct, list_any}
use Rattle.std.proofs.Common.{◌≡◌, inl, inr, ℕ, zero, suc, Bool, true, false, ◌+◌, ◌-◌, ◌<◌, ◌≤◌, List, [], ◌∷◌, ◌++◌, length, get_or, arith, refl, sym, ◌∙◌, ap, subst}
use Rattle.std.proofs.lemmas.Bool.{cases_Bool, eqb-true}
use Rattle.std.proofs.lemmas.List.Elements.{All-head, All-tail, All-weaker}
use Rattle.std.proofs.lemmas.List.{get_or-map, get_or_append_left, get_or-append_right, length-append}
use Rattle.merge_rule.proofs.MergeFacts.{merge_of-first_sends, merge_of-second_sends, merge_of-receives}
use Rattle.diverge_rule.proofs.DivergeFacts.{diverge_of-conserved, diverge_of-sends, diverge_of-first_receives, diverge_of-second_receives}
use Rattle.step_plan.specs.Records.{TurnRecord}
use Rattle.step_plan.specs.Sound.{IsSoundTurn}
use Rattle.step_plan.specs.Turning.{shares_at}
use Rattle.step_plan.specs.Limits.{most_steps}
use Rattle.step_plan.proofs.Laws.{shares_at-all}
use Rattle.network_file.specs.Connectors.{upstream_of, downstream_of, cells_of, leads_out_of, leads_into}
use Rattle.network_file.specs.Network.{Network}
use Rattle.network_file.specs.Sound.{IsNetwork, IsSoundConnector}
use Rattle.network_file.specs.declared.cell.Cell.{Cell}
use Rattle.network_file.specs.declared.connector.Connector.{Connector}
use Rattle.network_file.specs.declared.connector.Connector.TheVariants.{Link, Merge, Diverge}
use Rattle.network_file.proofs.PlanFacts.{all-planned}
use Rattle.flow_model.specs.Limits.{sending_at, receiving_at}
use Rattle.flow_model.specs.FlowLaw.{SendsAtMost, ReceivesAtMost}
use Rattle.flow_model.specs.Flows.{flow_between, flow_of, amount_beside, leaving, entering}
use Rattle.flow_model.specs.declared.carried.Flow.{Flow}

-- the weights of a merge are not both 0
some_weight : (cells : List Cell) (up1 up2 down p1 p2 : ℕ) → IsSoundConnector cells (Merge up1 up2 down p1 p2) → 1 ≤ p1 + p2
some_weight cells up1 up2 down p1 p2 sound = let first = (sound.weights 0 0 (omega arith)).0 in omega arith

-- the shares of a diverge in a step are not 0
pub some_shares : (net : Network) (t up b1 b2 : ℕ) → IsNetwork net → 1 ≤ b1 → 1 ≤ b2 →
    (1 ≤ (shares_at net.plan up t (b1, b2)).0) × (1 ≤ (shares_at net.plan up t (b1, b2)).1)
some_shares net t up b1 b2 sound first second =
    shares_at-all (λ shares. (1 ≤ shares.0) × (1 ≤ shares.1)) net.plan up t (b1, b2) (first, second)
    (all-planned (λ planned. All (λ turn. (1 ≤ turn.b1) × (1 ≤ turn.b2)) planned.records.turns) net sound
    (λ k planned fits. All-weaker (λ (turn : TurnRecord). (turn.to ≤ most_steps) × IsSoundTurn turn) (λ turn. (1 ≤ turn.b1) × (1 ≤ turn.b2))
    (λ turn within. (within.1.some_first, within.1.some_second)) planned.records.turns fits.turns))

pub flow_between-conserved : (net : Network) (t : ℕ) (connector : Connector) (n : List ℕ) →
    let flow = flow_between net t connector n in
    flow.out1 + flow.out2 ≡ flow.in1 + flow.in2
flow_between-conserved net t (Link up down) n = refl
flow_between-conserved net t (Merge up1 up2 down p1 p2) n = omega arith
flow_between-conserved net t (Diverge up down1 down2 b1 b2) n =
    omega (
      arith,
      diverge_of-conserved (sending_at net t up (slice_index n 0)) (receiving_at net t down1 (slice_index n 1))
          (receiving_at net t down2 (slice_index n 2)) (shares_at net.plan up t (b1, b2)).0 (shares_at net.plan up t (b1, b2)).1,
    )

pub flow_between-sends : (net : Network) (t : ℕ) (connector : Connector) (n : List ℕ) → IsSoundConnector net.cells connector →
    SendsAtMost net t connector n (flow_between net t connector n)
flow_between-sends net t (Link up down) n sound zero within = omega arith
flow_between-sends net t (Link up down) n sound (suc j) within = absurd (omega arith)
flow_between-sends net t (Merge up1 up2 down p1 p2) n sound zero within =
    merge_of-first_sends (sending_at net t up1 (slice_index n 0)) (sending_at net t up2 (slice_index n 1))
    (receiving_at net t down (slice_index n 2)) p1 p2 (some_weight net.cells up1 up2 down p1 p2 sound)
flow_between-sends net t (Merge up1 up2 down p1 p2) n sound (suc zero) within =
    merge_of-second_sends (sending_at net t up1 (slice_index n 0)) (sending_at net t up2 (slice_index n 1))
    (receiving_at net t down (slice_index n 2)) p1 p2 (some_weight net.cells up1 up2 down p1 p2 sound)
flow_between-sends net t (Merge up1 up2 down p1 p2) n sound (suc (suc j)) within = absurd (omega arith)
flow_between-sends net t (Diverge up down1 down2 b1 b2) n sound zero within =
    diverge_of-sends (sending_at net t up (slice_index n 0)) (receiving_at net t down1 (slice_index n 1))
    (receiving_at net t down2 (slice_index n 2)) (shares_at net.plan up t (b1, b2)).0 (shares_at net.plan up t (b1, b2)).1
flow_between-sends net t (Diverge up down1 down2 b1 b2) n sound (suc j) within = absurd (omega arith)

pub flow_between-receives : (net : Network) (t : ℕ) (connector : Connector) (n : List ℕ) → IsSoundConnector net.cells connector →
    ReceivesAtMost net t connector n (flow_between net t connector n)
flow_between-receives net t (Link up down) n sound zero within = omega arith
flow_between-receives net t (Link up down) n sound (suc j) within = absurd (omega arith)
flow_between-receives net t (Merge up1 up2 down p1 p2) n sound zero within =
    merge_of-receives (sending_at net t up1 (slice_index n 0)) (sending_at net t up2 (slice_index n 1))
    (receiving_at net t down (slice_index n 2)) p1 p2 (some_weight net.cells up1 up2 down p1 p2 sound)
flow_between-receives net t (Merge up1 up2 down p1 p2) n sound (suc j) within = absurd (omega arith)
flow_between-receives net t (Diverge up down1 down2 b1 b2) n sound zero within =
    diverge_of-first_receives (sending_at net t up (slice_index n 0)) (receiving_at net t down1 (slice_index n 1))
    (receiving_at net t down2 (slice_index n 2)) (shares_at net.plan up t (b1, b2)).0 (shares_at net.plan up t (b1, b2)).1
flow_between-receives net t (Diverge up down1 down2 b1 b2) n sound (suc zero) within =
    diverge_of-second_receives (sending_at net t up (slice_index n 0)) (receiving_at net t down1 (slice_index n 1))
    (receiving_at net t down2 (slice_index n 2)) (shares_at net.plan up t (b1, b2)).0 (shares_at net.plan up t (b1, b2)).1
flow_between-receives net t (Diverge up down1 down2 b1 b2) n sound (suc (suc j)) within = absurd (omega arith)

-- the same where cell i holds n i
pub flow_of-conserved : (net : Network) (t : ℕ) (n : ℕ → ℕ) (connector : Connector) →
    let flow = flow_of net t n connector in
    flow.out1 + flow.out2 ≡ flow.in1 + flow.in2
unfolding flow_of
flow_of-conserved net t n connector = flow_between-conserved net t connector (map n (cells_of connector))

-- what stands beside a cell

pub or_none : (a b : Bool) → (a || b) ≡ false → (a ≡ false) × (b ≡ false)
or_none true b none = cc
or_none false b none = (refl, none)

-- beside a cell that isn't one of these stands nothing
pub amount_beside-other : (i : ℕ) (cells amounts : List ℕ) → list_any (eqb i) cells ≡ false → amount_beside i cells amounts ≡ 0
amount_beside-other i [] amounts none = refl
amount_beside-other i (cell ∷ cells) [] none = refl
amount_beside-other i (cell ∷ cells) (amount ∷ amounts) none =
    let both = or_none (eqb i cell) (list_any (eqb i) cells) none in
    let here : (if i == cell then amount else 0) ≡ 0 = ap (λ b. if b then amount else 0) both.0 in
    omega (arith, amount_beside-other i cells amounts both.1)

pub absent : (cell : ℕ) (cells : List ℕ) → AllByRecursion (λ c. eqb cell c ≡ false) cells → list_any (eqb cell) cells ≡ false
absent cell [] apart = refl
absent cell (c ∷ cells) apart = rw apart.0 (absent cell cells apart.1)

-- where each of them that is the cell has at most `m`, and they differ, it has at most `m`
pub amount_beside-le : (i m : ℕ) (cells amounts : List ℕ) → IsDistinct eqb cells →
    ((j : ℕ) → j < length cells → get_or cells j 0 ≡ i → get_or amounts j 0 ≤ m) →
    amount_beside i cells amounts ≤ (if list_any (eqb i) cells then m else 0)
unfolding IsDistinct
amount_beside-le i m [] amounts apart each = omega arith
amount_beside-le i m (cell ∷ cells) [] apart each = omega arith
amount_beside-le i m (cell ∷ cells) (amount ∷ amounts) apart each = elim (cases_Bool (eqb i cell)) [
  | inl here ↦
      let same : i ≡ cell = eqb-true i cell here in
      let others = amount_beside-other i cells amounts (rw same (absent cell cells apart.0)) in
      rw (here, others) (omega (arith, each 0 (omega arith) (sym same)))
  | inr other ↦
      rw other (omega (arith, amount_beside-le i m cells amounts apart.1 (λ j within. each (suc j) (omega arith))))
]

-- what a cell upstream or downstream holds, among what all the cells hold
held_up : (n : ℕ → ℕ) (up down : List ℕ) (i j : ℕ) → j < length up → get_or up j 0 ≡ i → get_or (map n (up ++ down)) j 0 ≡ n i
held_up n up down i j within here =
    get_or-map n (up ++ down) j 0 0 (omega (arith, length-append up down)) ∙
    ap n (get_or_append_left up down 0 j within ∙ here)

-- what stands behind the first of two lists
pub get_or-append_behind : (up down : List ℕ) (j : ℕ) → get_or (up ++ down) (length up + j) 0 ≡ get_or down j 0
get_or-append_behind up down j =
    let place : length up + j - length up ≡ j = omega arith in
    get_or-append_right up down (length up) (length up + j) 0 refl (omega arith) ∙ ap (λ k. get_or down k 0) place

held_down : (n : ℕ → ℕ) (up down : List ℕ) (i j : ℕ) → j < length down → get_or down j 0 ≡ i →
    get_or (map n (up ++ down)) (length up + j) 0 ≡ n i
held_down n up down i j within here =
    get_or-map n (up ++ down) (length up + j) 0 0 (omega (arith, length-append up down)) ∙
    ap n (get_or-append_behind up down j ∙ here)

-- what leaves cell i by a connector is at most what the cell can send, and nothing where the connector leads out of others
pub leaving-le : (net : Network) (t i : ℕ) (n : ℕ → ℕ) (connector : Connector) → IsSoundConnector net.cells connector →
    leaving i connector (flow_of net t n connector) ≤ (if leads_out_of i connector then sending_at net t i (n i) else 0)
unfolding flow_of
leaving-le net t i n connector sound =
    let up : List ℕ = upstream_of connector in
    let down : List ℕ = downstream_of connector in
    let sends : SendsAtMost net t connector (map n (cells_of connector)) (flow_of net t n connector) =
    flow_between-sends net t connector (map n (cells_of connector)) sound in
    amount_beside-le i (sending_at net t i (n i)) up _ sound.up_apart
    (λ j within here. rw (here, held_up n up down i j within here) at (sends j within))

-- what enters it
pub entering-le : (net : Network) (t i : ℕ) (n : ℕ → ℕ) (connector : Connector) → IsSoundConnector net.cells connector →
    entering i connector (flow_of net t n connector) ≤ (if leads_into i connector then receiving_at net t i (n i) else 0)
unfolding flow_of
entering-le net t i n connector sound =
    let up : List ℕ = upstream_of connector in
    let down : List ℕ = downstream_of connector in
    let receives : ReceivesAtMost net t connector (map n (cells_of connector)) (flow_of net t n connector) =
    flow_between-receives net t connector (map n (cells_of connector)) sound in
    amount_beside-le i (receiving_at net t i (n i)) down _ sound.down_apart
    (λ j within here. rw (here, held_down n up down i j within here) at (receives j within))

-- what holds of all these cells holds of the one that is listed
pub at_listed : (P : ℕ → Type 0) (i : ℕ) (cells : List ℕ) → list_any (eqb i) cells ≡ true → All P cells → P i
at_listed P i [] listed all = cc
at_listed P i (cell ∷ cells) listed all = elim (cases_Bool (eqb i cell)) [
  | inl here ↦ subst P (sym (eqb-true i cell here)) (All-head P cell cells all)
  | inr other ↦ at_listed P i cells (rw other at listed) (All-tail P cell cells all)
]

-- a connector that doesn't lead out of a cell takes nothing from it, and one that doesn't lead into it brings it nothing
pub leaving-other : (i : ℕ) (connector : Connector) (flow : Flow) → leads_out_of i connector ≡ false → leaving i connector flow ≡ 0
leaving-other i connector flow none = amount_beside-other i (upstream_of connector) (flow.out1 ∷ flow.out2 ∷ []) none

pub entering-other : (i : ℕ) (connector : Connector) (flow : Flow) → leads_into i connector ≡ false → entering i connector flow ≡ 0
entering-other i connector flow none = amount_beside-other i (downstream_of connector) (flow.in1 ∷ flow.in2 ∷ []) none
