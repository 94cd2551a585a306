-- A cell passes its capacity at green steps at most, and exactly that where it is fed and drained.
use Rattle.std.specs.Prelude.{count_by, sum_by, ◌==◌, if◌then◌else◌}
use Rattle.std.specs.List.{range_with_len}
use Rattle.std.proofs.Common.{◌≡◌, inl, inr, ℕ, Bool, zero, suc, add-one, false, true, ◌+◌, ◌-◌, ◌*◌, ◌<◌, ◌≤◌, [], length, arith, refl, ap, subst, ◌∙◌}
use Rattle.std.proofs.lemmas.Bool.{cases_Bool, eq-eqb}
use Rattle.std.proofs.lemmas.List.Sums.{sum_by-cons}
use Rattle.step_plan.specs.Capacity.{capacity_at}
use Rattle.step_plan.specs.Green.{green_at}
use Rattle.step_plan.specs.Speeds.{arriving, speed_at}
use Rattle.step_plan.specs.Records.{PlanRecords}
use Rattle.step_plan.proofs.Sums.{sum_by_range_split}
use Rattle.network_file.specs.Connectors.{leads_out_of}
use Rattle.network_file.specs.Numbered.{connector_at}
use Rattle.network_file.specs.Network.{Network}
use Rattle.network_file.specs.Sound.{IsNetwork}
use Rattle.network_file.specs.declared.connector.Connector.{Connector}
use Rattle.network_file.specs.declared.connector.Connector.TheVariants.{Link}
use Rattle.flow_model.specs.Flows.{flow_of, leaving, outflow}
use Rattle.flow_model.specs.Limits.{sending_at}
use Rattle.flow_model.specs.State.{occupancy, state_at}
use Rattle.flow_model.proofs.CellFlows.{outflow-by}
use Rattle.flow_model.proofs.Flows.{outflow-le}
use Rattle.flow_ledger.specs.FlightLaw.{leaves}
use Rattle.flow_ledger.proofs.StateRows.{gone-next}
use Rattle.traffic_laws.specs.Bottleneck.{IsFedAndDrained, IsRateTimesGreenSteps, IsRateTimesSteps, PassesAllWhereFed, PassesAtMost, green_capacity, green_capacity_over}
use Rattle.traffic_laws.specs.Curves.{departed}

-- the green capacities of so many steps

capacities : Network → (i from steps : ℕ) → ℕ
capacities net i from steps = sum_by (green_capacity net.plan i) (range_with_len from steps)

capacities-more : (net : Network) (i from steps : ℕ) →
    capacities net i from (steps + 1) ≡ capacities net i from steps + green_capacity net.plan i (from + steps)
unfolding capacities
capacities-more net i from steps =
    omega (arith, sum_by_range_split (green_capacity net.plan i) from steps 1, sum_by-cons (green_capacity net.plan i) (from + steps) [])

-- one step more of the range
pub green_capacity_over-more : (net : Network) (i from to : ℕ) → from ≤ to →
    green_capacity_over net i from (to + 1) ≡ green_capacity_over net i from to + green_capacity net.plan i to
unfolding green_capacity_over capacities
green_capacity_over-more net i from to range =
    let longer : to + 1 - from ≡ (to - from) + 1 = omega arith in
    let last : from + (to - from) ≡ to = omega arith in
    rw longer (capacities-more net i from (to - from) ∙ ap (λ s. capacities net i from (to - from) + green_capacity net.plan i s) last)

pub green_capacity_over-none : (net : Network) (i from : ℕ) → green_capacity_over net i from from ≡ 0
unfolding green_capacity_over
green_capacity_over-none net i from = let none : from - from ≡ 0 = omega arith in rw none refl

-- at one of them
rate : (net : Network) (i from q steps : ℕ) → ((s : ℕ) → from ≤ s → s < from + steps → green_capacity net.plan i s ≡ q) →
    capacities net i from steps ≡ q * steps
unfolding capacities
rate net i from q zero each = omega arith
rate net i from q (suc steps) each =
    omega (
      arith,
      rw add-one at (capacities-more net i from steps),
      each (from + steps) (omega arith) (omega arith),
      rate net i from q steps (λ s after before. each s after (omega arith)),
    )

pub green_capacity_over-rate : (net : Network) (i from to : ℕ) → from ≤ to → IsRateTimesSteps net i from to (green_capacity_over net i from to)
unfolding green_capacity_over capacities
green_capacity_over-rate net i from to range q each = rate net i from q (to - from) (λ s after before. each s after (omega arith))

-- the green ones of so many steps

greens : Network → (i from steps : ℕ) → ℕ
greens net i from steps = count_by (green_at net.plan i) (range_with_len from steps)

greens-more : (net : Network) (i from steps : ℕ) →
    greens net i from (steps + 1) ≡ greens net i from steps + (if green_at net.plan i (from + steps) then 1 else 0)
unfolding greens
greens-more net i from steps =
    let is_green : ℕ → ℕ = λ s. if green_at net.plan i s then 1 else 0 in
    omega (arith, sum_by_range_split is_green from steps 1, sum_by-cons is_green (from + steps) [])

-- one step more of them
one_more : (b : Bool) (q capacity sum count : ℕ) → (b ≡ true → capacity ≡ q) → sum ≡ q * count →
    sum + (if b then capacity else 0) ≡ q * (count + (if b then 1 else 0))
one_more true q capacity sum count is before = omega (arith, is refl)
one_more false q capacity sum count is before = omega arith

-- at one capacity where it is green
green_rate : (net : Network) (i from q steps : ℕ) →
    ((s : ℕ) → from ≤ s → s < from + steps → green_at net.plan i s ≡ true → capacity_at net.plan i s ≡ q) →
    capacities net i from steps ≡ q * greens net i from steps
unfolding capacities greens
green_rate net i from q zero each = omega arith
green_rate net i from q (suc steps) each =
    let last : ℕ = from + steps in
    let before = green_rate net i from q steps (λ s after before. each s after (omega arith)) in
    rw (rw add-one at (capacities-more net i from steps), rw add-one at (greens-more net i from steps)) (
    one_more (green_at net.plan i last) q (capacity_at net.plan i last) (capacities net i from steps) (greens net i from steps)
    (each last (omega arith) (omega arith)) before
    )

pub green_capacity_over-green_rate : (net : Network) (i from to : ℕ) → from ≤ to →
    IsRateTimesGreenSteps net i from to (green_capacity_over net i from to)
unfolding green_capacity_over capacities greens
green_capacity_over-green_rate net i from to range q each =
    green_rate net i from q (to - from) (λ s after before. each s after (omega arith))

-- it is no more than the capacity
pub green_capacity-le : (plan : PlanRecords) (i s : ℕ) → green_capacity plan i s ≤ capacity_at plan i s
green_capacity-le plan i s = elim (cases_Bool (green_at plan i s)) [
  | inl green ↦ rw green (omega arith)
  | inr red ↦ rw red (omega arith)
]

-- what leaves in a step

sending_at-le-green : (net : Network) (i s n : ℕ) → sending_at net s i n ≤ green_capacity net.plan i s
unfolding sending_at
sending_at-le-green net i s n = elim (cases_Bool (green_at net.plan i s)) [
  | inl green ↦ rw green (omega arith)
  | inr red ↦ rw red (omega arith)
]

leaves-le-capacity : (net : Network) (i s : ℕ) → IsNetwork net → leaves net s i ≤ green_capacity net.plan i s
leaves-le-capacity net i s sound =
    omega (arith, outflow-le net s i (occupancy (state_at net s)) sound, sending_at-le-green net i s (occupancy (state_at net s) i))

-- a green cell to whose end its capacity comes can send it
sends-capacity : (net : Network) (i s n : ℕ) → green_at net.plan i s ≡ true → capacity_at net.plan i s ≤ arriving (speed_at net.plan i s) n →
    sending_at net s i n ≡ capacity_at net.plan i s
unfolding sending_at
sends-capacity net i s n green fed = rw green (omega arith)

-- so it leaves by the link, where there is place for it
leaves-green : (net : Network) (i k down s : ℕ) → IsNetwork net → k < length net.connectors → connector_at net.connectors k ≡ Link i down →
    IsFedAndDrained net i down s → green_at net.plan i s ≡ true → leaves net s i ≡ capacity_at net.plan i s
unfolding flow_of
leaves-green net i k down s sound there is free green =
    let n : ℕ → ℕ = occupancy (state_at net s) in
    let own : (i == i) ≡ true = eq-eqb i i refl in
    let by_it : Connector → Type 0 = λ connector. leads_out_of i connector ≡ true → outflow net s n i ≡ leaving i connector (flow_of net s n connector) in
    let by = subst by_it is (λ out. outflow-by net s k i n sound there out) in
    let sends = sends-capacity net i s (n i) green (free.fed green) in
    by (rw own refl) ∙ rw (own, sends) (omega (arith, free.drained green))

-- and nothing at red
leaves-capacity : (net : Network) (i k down s : ℕ) → IsNetwork net → k < length net.connectors → connector_at net.connectors k ≡ Link i down →
    IsFedAndDrained net i down s → leaves net s i ≡ green_capacity net.plan i s
leaves-capacity net i k down s sound there is free = elim (cases_Bool (green_at net.plan i s)) [
  | inl green ↦ rw green (leaves-green net i k down s sound there is free green)
  | inr red ↦ let most = rw red at (leaves-le-capacity net i s sound) in rw red (omega arith)
]

-- what goes out in a range

passes : (net : Network) (i from steps : ℕ) → IsNetwork net → i < length net.cells →
    departed net i (from + steps) ≤ departed net i from + capacities net i from steps
unfolding capacities
passes net i from zero sound has = let same : from + 0 ≡ from = omega arith in rw same (omega arith)
passes net i from (suc steps) sound has =
    let next : from + suc steps ≡ (from + steps) + 1 = omega arith in
    rw next (omega (
      arith,
      gone-next net (from + steps) i has,
      leaves-le-capacity net i (from + steps) sound,
      rw add-one at (capacities-more net i from steps),
      passes net i from steps sound has,
    ))

pub passes-at-most : (net : Network) (i from to : ℕ) → IsNetwork net → i < length net.cells → from ≤ to →
    PassesAtMost net i from to (green_capacity_over net i from to)
unfolding green_capacity_over capacities
passes-at-most net i from to sound has range =
    let last : from + (to - from) ≡ to = omega arith in
    rw last at (passes net i from (to - from) sound has)

passes-capacity : (net : Network) (i k down from steps : ℕ) → IsNetwork net → i < length net.cells → k < length net.connectors →
    connector_at net.connectors k ≡ Link i down → ((s : ℕ) → from ≤ s → s < from + steps → IsFedAndDrained net i down s) →
    departed net i (from + steps) ≡ departed net i from + capacities net i from steps
unfolding capacities
passes-capacity net i k down from zero sound has there is free = let same : from + 0 ≡ from = omega arith in rw same (omega arith)
passes-capacity net i k down from (suc steps) sound has there is free =
    let next : from + suc steps ≡ (from + steps) + 1 = omega arith in
    rw next (omega (
      arith,
      gone-next net (from + steps) i has,
      leaves-capacity net i k down (from + steps) sound there is (free (from + steps) (omega arith) (omega arith)),
      rw add-one at (capacities-more net i from steps),
      passes-capacity net i k down from steps sound has there is (λ s after before. free s after (omega arith)),
    ))

pub passes-all : (net : Network) (i from to : ℕ) → IsNetwork net → i < length net.cells → from ≤ to →
    PassesAllWhereFed net i from to (green_capacity_over net i from to)
unfolding green_capacity_over capacities
passes-all net i from to sound has range k down there is free =
    let last : from + (to - from) ≡ to = omega arith in
    rw last at (passes-capacity net i k down from (to - from) sound has there is (λ s after before. free s after (omega arith)))
