-- The next row of a cell depends on the occupancies of the cells that share a connector with it, and on no other.
use Rattle.std.specs.Prelude.{All, eqb, map, ◌&&◌, ◌||◌, if◌then◌else◌}
use Rattle.std.specs.List.{list_any}
use Rattle.std.proofs.Common.{◌≡◌, inl, inr, ℕ, Bool, true, false, List, [], ◌∷◌, get_or, refl, sym, ap, ◌∙◌}
use Rattle.std.proofs.lemmas.Bool.{cases_Bool, eq-eqb}
use Rattle.std.proofs.lemmas.List.Folds.{list_any-append, list_any_at}
use Rattle.step_plan.specs.Demand.{demand_at}
use Rattle.network_file.specs.Cells.{is_gate_at}
use Rattle.network_file.specs.Connectors.{upstream_of, downstream_of, cells_of, leads_out_of, leads_into, touches, are_joined}
use Rattle.network_file.specs.Network.{Network}
use Rattle.network_file.specs.declared.connector.Connector.{Connector}
use Rattle.flow_model.specs.Flows.{flow_between, flow_of, leaving, entering, outflow, inflow}
use Rattle.flow_model.specs.Rows.{next_row}
use Rattle.flow_model.specs.declared.row.Row.{Row}
use Rattle.step_plan.proofs.Sums.{sum_by-same}
use Rattle.flow_model.proofs.Connectors.{leaving-other, entering-other}

or_left : (a b : Bool) → a ≡ true → (a || b) ≡ true
or_left true b left = refl
or_left false b left = cc

or_right : (a b : Bool) → b ≡ true → (a || b) ≡ true
or_right true b right = refl
or_right false b right = right

-- occupancies that agree at these cells
map_agree : (n m : ℕ → ℕ) (cells : List ℕ) → ((j : ℕ) → list_any (eqb j) cells ≡ true → n j ≡ m j) → map n cells ≡ map m cells
map_agree n m [] agree = refl
map_agree n m (cell ∷ cells) agree =
    let own : list_any (eqb cell) (cell ∷ cells) ≡ true = rw (eq-eqb cell cell refl) refl in
    let here = agree cell own in
    let rest = map_agree n m cells (λ j listed. agree j (or_right (eqb j cell) (list_any (eqb j) cells) listed)) in
    cc

flow_of-agree : (net : Network) (t : ℕ) (n m : ℕ → ℕ) (connector : Connector) → ((j : ℕ) → touches j connector ≡ true → n j ≡ m j) →
    flow_of net t n connector ≡ flow_of net t m connector
unfolding flow_of
flow_of-agree net t n m connector agree = ap (flow_between net t connector) (map_agree n m (cells_of connector) agree)

-- a cell that a connector leads out of or into is one of its own
pub leads_out_of-touches : (i : ℕ) (connector : Connector) → leads_out_of i connector ≡ true → touches i connector ≡ true
leads_out_of-touches i connector out =
    list_any-append (eqb i) (upstream_of connector) (downstream_of connector) ∙
    or_left (leads_out_of i connector) (leads_into i connector) out

pub leads_into-touches : (i : ℕ) (connector : Connector) → leads_into i connector ≡ true → touches i connector ≡ true
leads_into-touches i connector into =
    list_any-append (eqb i) (upstream_of connector) (downstream_of connector) ∙
    or_right (leads_out_of i connector) (leads_into i connector) into

-- occupancies that agree at the cells that a connector of cell i touches
Agrees : (i : ℕ) (n m : ℕ → ℕ) → Connector → Type 0
Agrees i n m connector = touches i connector ≡ true → (j : ℕ) → touches j connector ≡ true → n j ≡ m j

agrees_all : (net : Network) (i : ℕ) (n m : ℕ → ℕ) → ((j : ℕ) → are_joined net.connectors i j ≡ true → n j ≡ m j) →
    All (Agrees i n m) net.connectors
unfolding Agrees
agrees_all net i n m agree = λ k d within own j other.
    agree j (list_any_at (λ connector. touches i connector && touches j connector) net.connectors k d within
    (both (touches i (get_or net.connectors k d)) (touches j (get_or net.connectors k d)) own other))
  where
    both : (a b : Bool) → a ≡ true → b ≡ true → (a && b) ≡ true
    both true b left right = right
    both false b left right = cc

pub outflow-local : (net : Network) (t i : ℕ) (n m : ℕ → ℕ) → ((j : ℕ) → are_joined net.connectors i j ≡ true → n j ≡ m j) →
    outflow net t n i ≡ outflow net t m i
unfolding outflow Agrees
outflow-local net t i n m agree =
    sum_by-same (Agrees i n m) (λ c. leaving i c (flow_of net t n c)) (λ c. leaving i c (flow_of net t m c)) net.connectors
    (λ c here. elim (cases_Bool (leads_out_of i c)) [
      | inl out ↦ ap (leaving i c) (flow_of-agree net t n m c (here (leads_out_of-touches i c out)))
      | inr other ↦ leaving-other i c (flow_of net t n c) other ∙ sym (leaving-other i c (flow_of net t m c) other)
    ])
    (agrees_all net i n m agree)

pub inflow-local : (net : Network) (t i : ℕ) (n m : ℕ → ℕ) → ((j : ℕ) → are_joined net.connectors i j ≡ true → n j ≡ m j) →
    inflow net t n i ≡ inflow net t m i
unfolding inflow Agrees
inflow-local net t i n m agree =
    ap (λ brought. if is_gate_at net.cells i then demand_at net.plan i t else brought)
    (sum_by-same (Agrees i n m) (λ c. entering i c (flow_of net t n c)) (λ c. entering i c (flow_of net t m c)) net.connectors
    (λ c here. elim (cases_Bool (leads_into i c)) [
      | inl into ↦ ap (entering i c) (flow_of-agree net t n m c (here (leads_into-touches i c into)))
      | inr other ↦ entering-other i c (flow_of net t n c) other ∙ sym (entering-other i c (flow_of net t m c) other)
    ])
    (agrees_all net i n m agree))

pub next_row-local : (net : Network) (t i : ℕ) (n m : ℕ → ℕ) (row : Row) → ((j : ℕ) → are_joined net.connectors i j ≡ true → n j ≡ m j) →
    next_row net t n i row ≡ next_row net t m i row
unfolding next_row
next_row-local net t i n m row agree = rw (inflow-local net t i n m agree, outflow-local net t i n m agree) refl
