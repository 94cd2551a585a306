-- A connector carries its flow, one move after the other: what leaves each cell upstream, and then what enters each cell downstream.
use Rattle.std.specs.Prelude.{map, if◌then◌else◌, ◌==◌}
use Rattle.std.proofs.Common.{◌≡◌, ℕ, zero, suc, ◌+◌, ◌<◌, ◌≤◌, true, List, [], ◌∷◌, length, get_or, take, set, arith, refl, sym, ap, subst, ◌∙◌}
use Rattle.std.proofs.lemmas.Bool.{eq-eqb}
use Rattle.std.proofs.lemmas.List.{get_or-map, get_or_append_left, length-append, take_all}
use Rattle.step_plan.specs.Demand.{demand_at}
use Rattle.network_file.specs.Connectors.{upstream_of, downstream_of, cells_of}
use Rattle.network_file.specs.Numbered.{connector_at}
use Rattle.network_file.specs.Network.{Network}
use Rattle.network_file.specs.Sound.{IsNetwork}
use Rattle.network_file.specs.declared.connector.Connector.{Connector}
use Rattle.network_file.specs.declared.connector.Connector.TheVariants.{Link, Merge, Diverge}
use Rattle.flow_model.specs.Bounds.{AreHeldInBounds, AreInBounds, IsHeldInBounds}
use Rattle.flow_model.specs.Flows.{flow_between, flow_of, amount_beside, leaving, entering, outflow, inflow}
use Rattle.flow_model.specs.State.{row_at, occupancy, next_rows}
use Rattle.flow_model.specs.Moves.{CanLeave, CanEnter, row_less, row_more, with_connectors}
use Rattle.flow_model.specs.declared.row.Row.{Row}
use Rattle.flow_model.specs.declared.carried.Flow.{Flow}
use Rattle.network_file.proofs.NetworkFacts.{cells_there, connector_at-sound}
use Rattle.flow_model.proofs.Connectors.{entering-other, get_or-append_behind}
use Rattle.flow_model.proofs.FirstConnectors.{inflow-more, inflow-with_connectors-le, outflow-more, outflow-with_connectors-le}
use Rattle.flow_model.proofs.Flows.{inflow-gate, leads_into-gate}
use Rattle.flow_model.proofs.Bounds.{IsChange, changes}
use Rattle.flow_model.proofs.Moves.{next_rows-with_connectors, rows_moved, rows_moved-same, rows_moved-less, rows_moved-more}

-- one cell more of a connector

amount_beside-more : (i : ℕ) (cells amounts : List ℕ) (j : ℕ) → j < length cells → j < length amounts →
    amount_beside i (take (j + 1) cells) amounts ≡
    amount_beside i (take j cells) amounts + (if i == get_or cells j 0 then get_or amounts j 0 else 0)
amount_beside-more i [] amounts j within there = absurd (omega arith)
amount_beside-more i (cell ∷ cells) [] j within there = absurd (omega arith)
amount_beside-more i (cell ∷ cells) (amount ∷ amounts) zero within there = omega arith
amount_beside-more i (cell ∷ cells) (amount ∷ amounts) (suc j) within there =
    let next : suc j + 1 ≡ suc (j + 1) = omega arith in
    rw next (omega (arith, amount_beside-more i cells amounts j (omega arith) (omega arith)))

amount_beside-take-le : (i : ℕ) (cells amounts : List ℕ) (j : ℕ) → amount_beside i (take j cells) amounts ≤ amount_beside i cells amounts
amount_beside-take-le i cells amounts zero = omega arith
amount_beside-take-le i [] amounts (suc j) = omega arith
amount_beside-take-le i (cell ∷ cells) [] (suc j) = omega arith
amount_beside-take-le i (cell ∷ cells) (amount ∷ amounts) (suc j) = omega (arith, amount_beside-take-le i cells amounts j)

-- connector k carries its flow of step t, from these rows
pub record IsCarried (net : Network) (t k : ℕ) (rows : List Row) (flow : Flow) : Type 0 where
  pub sound : IsNetwork net
  pub before : t < net.steps
  pub there : k < length net.connectors
  pub bounds : AreInBounds net t rows
  pub is : flow ≡ flow_of net t (occupancy rows) (connector_at net.connectors k)

-- what has left and entered cell i when so many of the connector's moves are made
abbrev pub left_so_far : Network → (t k : ℕ) → List Row → Flow → (outs i : ℕ) → ℕ
left_so_far net t k rows flow outs i =
    outflow (with_connectors net k) t (occupancy rows) i +
    amount_beside i (take outs (upstream_of (connector_at net.connectors k))) (flow.out1 ∷ flow.out2 ∷ [])

abbrev pub entered_so_far : Network → (t k : ℕ) → List Row → Flow → (ins i : ℕ) → ℕ
entered_so_far net t k rows flow ins i =
    inflow (with_connectors net k) t (occupancy rows) i +
    amount_beside i (take ins (downstream_of (connector_at net.connectors k))) (flow.in1 ∷ flow.in2 ∷ [])

-- the rows then
abbrev pub rows_so_far : Network → (t k : ℕ) → List Row → Flow → (outs ins : ℕ) → List Row
rows_so_far net t k rows flow outs ins = rows_moved net rows (entered_so_far net t k rows flow ins) (left_so_far net t k rows flow outs)

left_with : (net : Network) (t k i : ℕ) (rows : List Row) (flow : Flow) → IsCarried net t k rows flow →
    outflow (with_connectors net (k + 1)) t (occupancy rows) i ≡
    outflow (with_connectors net k) t (occupancy rows) i + leaving i (connector_at net.connectors k) flow
left_with net t k i rows flow carried = rw (← carried.is) at (outflow-more net t (occupancy rows) i k carried.there)

entered_with : (net : Network) (t k i : ℕ) (rows : List Row) (flow : Flow) → IsCarried net t k rows flow →
    inflow (with_connectors net (k + 1)) t (occupancy rows) i ≡
    inflow (with_connectors net k) t (occupancy rows) i + entering i (connector_at net.connectors k) flow
entered_with net t k i rows flow carried = rw (← carried.is) at (inflow-more net t (occupancy rows) i k carried.sound carried.there)

-- no more has moved than in the whole step
is_change : (net : Network) (t k i outs ins : ℕ) (rows : List Row) (flow : Flow) → IsCarried net t k rows flow → i < length net.cells →
    IsChange net t i (occupancy rows i) (entered_so_far net t k rows flow ins i) (left_so_far net t k rows flow outs i)
is_change net t k i outs ins rows flow carried has =
    let connector : Connector = connector_at net.connectors k in
    let fits = connector_at-sound net k carried.sound carried.there in
    let brought = amount_beside-take-le i (downstream_of connector) (flow.in1 ∷ flow.in2 ∷ []) ins in
    changes net t i (occupancy rows) (entered_so_far net t k rows flow ins i) (left_so_far net t k rows flow outs i) carried.sound has
    (λ gate.
    let none = entering-other i connector flow (leads_into-gate net i connector fits gate) in
    let demand : inflow (with_connectors net k) t (occupancy rows) i ≡ demand_at net.plan i t = inflow-gate (with_connectors net k) t i (occupancy rows) gate in
    omega (arith, demand))
    (omega (arith, entered_with net t k i rows flow carried, inflow-with_connectors-le net t (occupancy rows) i (k + 1)))
    (omega (
      arith,
      left_with net t k i rows flow carried,
      outflow-with_connectors-le net t (occupancy rows) i (k + 1),
      amount_beside-take-le i (upstream_of connector) (flow.out1 ∷ flow.out2 ∷ []) outs,
    ))

-- before its first move
carrying-begins : (net : Network) (t k : ℕ) (rows now : List Row) (flow : Flow) →
    now ≡ next_rows (with_connectors net k) t rows → now ≡ rows_so_far net t k rows flow 0 0
carrying-begins net t k rows now flow is =
    is ∙ next_rows-with_connectors net t k rows ∙
    rows_moved-same net rows (inflow (with_connectors net k) t (occupancy rows)) (outflow (with_connectors net k) t (occupancy rows))
    (entered_so_far net t k rows flow 0) (left_so_far net t k rows flow 0) (λ i. omega arith) (λ i. omega arith)

-- after its last
carrying-ends : (net : Network) (t k outs ins : ℕ) (rows now : List Row) (flow : Flow) → IsCarried net t k rows flow →
    length (upstream_of (connector_at net.connectors k)) ≤ outs → length (downstream_of (connector_at net.connectors k)) ≤ ins →
    now ≡ rows_so_far net t k rows flow outs ins → now ≡ next_rows (with_connectors net (k + 1)) t rows
carrying-ends net t k outs ins rows now flow carried all_out all_in is =
    let up : List ℕ = upstream_of (connector_at net.connectors k) in
    let down : List ℕ = downstream_of (connector_at net.connectors k) in
    is ∙ rows_moved-same net rows (entered_so_far net t k rows flow ins) (left_so_far net t k rows flow outs)
    (inflow (with_connectors net (k + 1)) t (occupancy rows)) (outflow (with_connectors net (k + 1)) t (occupancy rows))
    (λ i. omega (arith, entered_with net t k i rows flow carried, ap (λ cells. amount_beside i cells (flow.in1 ∷ flow.in2 ∷ [])) (take_all ins down all_in)))
    (λ i. omega (arith, left_with net t k i rows flow carried, ap (λ cells. amount_beside i cells (flow.out1 ∷ flow.out2 ∷ [])) (take_all outs up all_out))) ∙
    sym (next_rows-with_connectors net t (k + 1) rows)

-- one move out: of the cell upstream of this place
moves-out : (net : Network) (t k j ins cell parts : ℕ) (rows now : List Row) (flow : Flow) → IsCarried net t k rows flow →
    j < length (upstream_of (connector_at net.connectors k)) → j < 2 →
    cell ≡ get_or (cells_of (connector_at net.connectors k)) j 0 → parts ≡ get_or (flow.out1 ∷ flow.out2 ∷ []) j 0 →
    now ≡ rows_so_far net t k rows flow j ins →
    CanLeave now cell parts × (set now cell (row_less (row_at now cell) parts) ≡ rows_so_far net t k rows flow (j + 1) ins)
moves-out net t k j ins cell parts rows now flow carried within few place parts_is is =
    let up : List ℕ = upstream_of (connector_at net.connectors k) in
    let cell_is : cell ≡ get_or up j 0 = place ∙ get_or_append_left up (downstream_of (connector_at net.connectors k)) 0 j within in
    let has : cell < length net.cells = rw cell_is ((connector_at-sound net k carried.sound carried.there).up j 0 within).0 in
    let more : (i : ℕ) → left_so_far net t k rows flow j i + (if i == cell then parts else 0) ≡ left_so_far net t k rows flow (j + 1) i =
    λ i. rw (cell_is, parts_is) (omega (arith, amount_beside-more i up (flow.out1 ∷ flow.out2 ∷ []) j within few)) in
    let own : (cell == cell) ≡ true = eq-eqb cell cell refl in
    let own_parts : (if cell == cell then parts else 0) ≡ parts = ap (λ b. if b then parts else 0) own in
    let after : left_so_far net t k rows flow j cell + parts ≡ left_so_far net t k rows flow (j + 1) cell = omega (arith, more cell) in
    let move = rows_moved-less net t rows (entered_so_far net t k rows flow ins) (left_so_far net t k rows flow j) cell parts carried.sound
    carried.before has carried.bounds (rw after (is_change net t k cell (j + 1) ins rows flow carried has)) in
    rw is (
      move.0,
      move.1 ∙ rows_moved-same net rows (entered_so_far net t k rows flow ins) (λ i. left_so_far net t k rows flow j i + (if i == cell then parts else 0))
          (entered_so_far net t k rows flow ins) (left_so_far net t k rows flow (j + 1)) (λ i. refl) more,
    )

-- one move in: into the cell downstream of this place
moves-in : (net : Network) (t k outs j cell parts : ℕ) (rows now : List Row) (flow : Flow) → IsCarried net t k rows flow →
    j < length (downstream_of (connector_at net.connectors k)) → j < 2 →
    cell ≡ get_or (cells_of (connector_at net.connectors k)) (length (upstream_of (connector_at net.connectors k)) + j) 0 →
    parts ≡ get_or (flow.in1 ∷ flow.in2 ∷ []) j 0 →
    now ≡ rows_so_far net t k rows flow outs j →
    CanEnter now cell parts × (set now cell (row_more (row_at now cell) parts) ≡ rows_so_far net t k rows flow outs (j + 1))
moves-in net t k outs j cell parts rows now flow carried within few place parts_is is =
    let up : List ℕ = upstream_of (connector_at net.connectors k) in
    let down : List ℕ = downstream_of (connector_at net.connectors k) in
    let cell_is : cell ≡ get_or down j 0 = place ∙ get_or-append_behind up down j in
    let has : cell < length net.cells = rw cell_is ((connector_at-sound net k carried.sound carried.there).down j 0 within).0 in
    let more : (i : ℕ) → entered_so_far net t k rows flow j i + (if i == cell then parts else 0) ≡ entered_so_far net t k rows flow (j + 1) i =
    λ i. rw (cell_is, parts_is) (omega (arith, amount_beside-more i down (flow.in1 ∷ flow.in2 ∷ []) j within few)) in
    let own : (cell == cell) ≡ true = eq-eqb cell cell refl in
    let own_parts : (if cell == cell then parts else 0) ≡ parts = ap (λ b. if b then parts else 0) own in
    let after : entered_so_far net t k rows flow j cell + parts ≡ entered_so_far net t k rows flow (j + 1) cell = omega (arith, more cell) in
    let move = rows_moved-more net t rows (entered_so_far net t k rows flow j) (left_so_far net t k rows flow outs) cell parts carried.sound
    carried.before has carried.bounds (rw after (is_change net t k cell outs (j + 1) rows flow carried has)) in
    rw is (
      move.0,
      move.1 ∙ rows_moved-same net rows (λ i. entered_so_far net t k rows flow j i + (if i == cell then parts else 0)) (left_so_far net t k rows flow outs)
          (entered_so_far net t k rows flow (j + 1)) (left_so_far net t k rows flow outs) more (λ i. refl),
    )

-- what the cells of a connector hold

cells_held : (net : Network) (t k : ℕ) (rows : List Row) → IsNetwork net → k < length net.connectors → AreInBounds net t rows →
    AreHeldInBounds net t (cells_of (connector_at net.connectors k)) (map (occupancy rows) (cells_of (connector_at net.connectors k)))
cells_held net t k rows sound there bounds =
    let cells : List ℕ = cells_of (connector_at net.connectors k) in
    record {
      each = λ j within. rw (get_or-map (occupancy rows) cells j 0 0 within) ((bounds.each (get_or cells j 0) (cells_there net.cells _ (connector_at-sound net k sound there) j 0 within)).held);
    }

-- three cells have three occupancies, and two have two
three : (n : ℕ → ℕ) (connector : Connector) (ups downs : ℕ) → length (upstream_of connector) ≡ ups → length (downstream_of connector) ≡ downs →
    ups + downs ≡ 3 → let cells = cells_of connector in
    map n cells ≡ n (get_or cells 0 0) ∷ n (get_or cells 1 0) ∷ n (get_or cells 2 0) ∷ []
three n (Link up down) ups downs up_long down_long all = absurd (omega arith)
three n (Merge up1 up2 down p1 p2) ups downs up_long down_long all = refl
three n (Diverge up down1 down2 b1 b2) ups downs up_long down_long all = refl

two : (net : Network) (t : ℕ) (n : ℕ → ℕ) (connector : Connector) → length (upstream_of connector) ≡ 1 → length (downstream_of connector) ≡ 1 →
    let cells = cells_of connector in
    flow_of net t n connector ≡ flow_between net t connector (n (get_or cells 0 0) ∷ n (get_or cells 1 0) ∷ 0 ∷ [])
unfolding flow_of
two net t n (Link up down) up_long down_long = refl
two net t n (Merge up1 up2 down p1 p2) up_long down_long = absurd (omega arith)
two net t n (Diverge up down1 down2 b1 b2) up_long down_long = absurd (omega arith)

three_flow : (net : Network) (t : ℕ) (n : ℕ → ℕ) (connector : Connector) (ups downs : ℕ) → length (upstream_of connector) ≡ ups →
    length (downstream_of connector) ≡ downs → ups + downs ≡ 3 → let cells = cells_of connector in
    flow_between net t connector (n (get_or cells 0 0) ∷ n (get_or cells 1 0) ∷ n (get_or cells 2 0) ∷ []) ≡ flow_of net t n connector
unfolding flow_of
three_flow net t n (Link up down) ups downs up_long down_long all = absurd (omega arith)
three_flow net t n (Merge up1 up2 down p1 p2) ups downs up_long down_long all = refl
three_flow net t n (Diverge up down1 down2 b1 b2) ups downs up_long down_long all = refl

pub three_held : (net : Network) (t k ups downs : ℕ) (cells : List ℕ) (rows : List Row) → IsNetwork net → k < length net.connectors →
    AreInBounds net t rows → cells_of (connector_at net.connectors k) ≡ cells → length (upstream_of (connector_at net.connectors k)) ≡ ups →
    length (downstream_of (connector_at net.connectors k)) ≡ downs → ups + downs ≡ 3 →
    AreHeldInBounds net t (cells_of (connector_at net.connectors k))
    (occupancy rows (get_or cells 0 0) ∷ occupancy rows (get_or cells 1 0) ∷ occupancy rows (get_or cells 2 0) ∷ [])
three_held net t k ups downs cells rows sound there bounds is up_long down_long all =
    let connector : Connector = connector_at net.connectors k in
    rw (← is) (subst (AreHeldInBounds net t (cells_of connector)) (three (occupancy rows) connector ups downs up_long down_long all)
    (cells_held net t k rows sound there bounds))

pub two_held : (net : Network) (t k : ℕ) (cells : List ℕ) (rows : List Row) → IsNetwork net → k < length net.connectors →
    AreInBounds net t rows → cells_of (connector_at net.connectors k) ≡ cells → length (upstream_of (connector_at net.connectors k)) ≡ 1 →
    length (downstream_of (connector_at net.connectors k)) ≡ 1 →
    AreHeldInBounds net t (cells_of (connector_at net.connectors k)) (occupancy rows (get_or cells 0 0) ∷ occupancy rows (get_or cells 1 0) ∷ 0 ∷ [])
two_held net t k cells rows sound there bounds is up_long down_long =
    let connector : Connector = connector_at net.connectors k in
    let long : length (cells_of connector) ≡ 2 = omega (arith, length-append (upstream_of connector) (downstream_of connector)) in
    rw (← is) (record { each = of_place long })
  where
    of_place : length (cells_of (connector_at net.connectors k)) ≡ 2 → (j : ℕ) → j < length (cells_of (connector_at net.connectors k)) →
        IsHeldInBounds net t (get_or (cells_of (connector_at net.connectors k)) j 0)
        (get_or (occupancy rows (get_or (cells_of (connector_at net.connectors k)) 0 0) ∷ occupancy rows (get_or (cells_of (connector_at net.connectors k)) 1 0) ∷ 0 ∷ []) j 0)
    of_place long zero within = (bounds.each _ (cells_there net.cells _ (connector_at-sound net k sound there) 0 0 within)).held
    of_place long (suc zero) within = (bounds.each _ (cells_there net.cells _ (connector_at-sound net k sound there) 1 0 within)).held
    of_place long (suc (suc j)) within = absurd (omega arith)

-- a connector carries its flow between these cells, so many of them upstream and so many downstream
pub record Carries (net : Network) (t k ups downs : ℕ) (cells : List ℕ) (rows : List Row) (flow : Flow) : Type 0 where
  pub carried : IsCarried net t k rows flow
  pub between : cells_of (connector_at net.connectors k) ≡ cells
  pub up : length (upstream_of (connector_at net.connectors k)) ≡ ups
  pub down : length (downstream_of (connector_at net.connectors k)) ≡ downs

pub three_carries : {net : Network} {t k ups downs : ℕ} {cells : List ℕ} {rows : List Row} {flow : Flow} → IsNetwork net → t < net.steps →
    k < length net.connectors → AreInBounds net t rows → cells_of (connector_at net.connectors k) ≡ cells →
    length (upstream_of (connector_at net.connectors k)) ≡ ups → length (downstream_of (connector_at net.connectors k)) ≡ downs → ups + downs ≡ 3 →
    flow ≡ flow_between net t (connector_at net.connectors k)
    (occupancy rows (get_or cells 0 0) ∷ occupancy rows (get_or cells 1 0) ∷ occupancy rows (get_or cells 2 0) ∷ []) →
    Carries net t k ups downs cells rows flow
three_carries {net} {t} {k} {ups} {downs} {cells} {rows} {flow} sound before there bounds is up_long down_long all flow_is =
    let connector : Connector = connector_at net.connectors k in
    let same = (rw (← is) at flow_is) ∙ three_flow net t (occupancy rows) connector ups downs up_long down_long all in
    record {
      carried = record { sound = sound; before = before; there = there; bounds = bounds; is = same };
      between = is;
      up = up_long;
      down = down_long;
    }

pub two_carries : {net : Network} {t k : ℕ} {cells : List ℕ} {rows : List Row} {flow : Flow} → IsNetwork net → t < net.steps →
    k < length net.connectors → AreInBounds net t rows → cells_of (connector_at net.connectors k) ≡ cells →
    length (upstream_of (connector_at net.connectors k)) ≡ 1 → length (downstream_of (connector_at net.connectors k)) ≡ 1 →
    flow ≡ flow_between net t (connector_at net.connectors k) (occupancy rows (get_or cells 0 0) ∷ occupancy rows (get_or cells 1 0) ∷ 0 ∷ []) →
    Carries net t k 1 1 cells rows flow
two_carries {net} {t} {k} {cells} {rows} {flow} sound before there bounds is up_long down_long flow_is =
    let connector : Connector = connector_at net.connectors k in
    let same = (rw (← is) at flow_is) ∙ sym (two net t (occupancy rows) connector up_long down_long) in
    record {
      carried = record { sound = sound; before = before; there = there; bounds = bounds; is = same };
      between = is;
      up = up_long;
      down = down_long;
    }

-- its moves, one after the other
pub begun : {net : Network} {t k ups downs : ℕ} {cells : List ℕ} {rows now : List Row} {flow : Flow} → Carries net t k ups downs cells rows flow →
    now ≡ next_rows (with_connectors net k) t rows → now ≡ rows_so_far net t k rows flow 0 0
begun {net} {t} {k} {ups} {downs} {cells} {rows} {now} {flow} carries is = carrying-begins net t k rows now flow is

pub leaves : {net : Network} {t k ups downs : ℕ} {cells : List ℕ} {rows now : List Row} {flow : Flow} → Carries net t k ups downs cells rows flow → (j : ℕ) → j < ups → j < 2 →
    now ≡ rows_so_far net t k rows flow j 0 → let cell = get_or cells j 0 in let parts = get_or (flow.out1 ∷ flow.out2 ∷ []) j 0 in
    CanLeave now cell parts × (set now cell (row_less (row_at now cell) parts) ≡ rows_so_far net t k rows flow (j + 1) 0)
leaves {net} {t} {k} {ups} {downs} {cells} {rows} {now} {flow} carries j within few is =
    moves-out net t k j 0 (get_or cells j 0) (get_or (flow.out1 ∷ flow.out2 ∷ []) j 0) rows now flow carries.carried (omega (arith, within, carries.up)) few
    (ap (λ cells. get_or cells j 0) (sym carries.between)) refl is

pub enters : {net : Network} {t k ups downs : ℕ} {cells : List ℕ} {rows now : List Row} {flow : Flow} → Carries net t k ups downs cells rows flow → (j : ℕ) → j < downs → j < 2 →
    now ≡ rows_so_far net t k rows flow ups j → let cell = get_or cells (ups + j) 0 in let parts = get_or (flow.in1 ∷ flow.in2 ∷ []) j 0 in
    CanEnter now cell parts × (set now cell (row_more (row_at now cell) parts) ≡ rows_so_far net t k rows flow ups (j + 1))
enters {net} {t} {k} {ups} {downs} {cells} {rows} {now} {flow} carries j within few is =
    moves-in net t k ups j (get_or cells (ups + j) 0) (get_or (flow.in1 ∷ flow.in2 ∷ []) j 0) rows now flow carries.carried (omega (arith, within, carries.down)) few
    (rw carries.up (ap (λ cells. get_or cells (ups + j) 0) (sym carries.between))) refl is

pub ended : {net : Network} {t k ups downs : ℕ} {cells : List ℕ} {rows now : List Row} {flow : Flow} → Carries net t k ups downs cells rows flow →
    now ≡ rows_so_far net t k rows flow ups downs → now ≡ next_rows (with_connectors net (k + 1)) t rows
ended {net} {t} {k} {ups} {downs} {cells} {rows} {now} {flow} carries is =
    carrying-ends net t k ups downs rows now flow carries.carried (omega (arith, carries.up)) (omega (arith, carries.down)) is
