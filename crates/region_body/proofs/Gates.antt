-- Gates that are asked one after the other.
use Rattle.std.specs.Prelude.{All, map, slice_index}
use Rattle.std.specs.List.{sum_by}
use Rattle.std.proofs.Common.{◌≡◌, ℕ, ◌+◌, ◌<◌, ◌≤◌, ◌==◌, if◌then◌else◌, inl, inr, List, length, get_or, set, refl, sym, ap, ◌∙◌, arith}
use Rattle.std.proofs.lemmas.Bool.{cases_eq}
use Rattle.std.proofs.lemmas.List.{get_or-set_other, get_or-set_same, length-set}
use Rattle.step_plan.proofs.Sums.{sum_by-same}
use Rattle.step_plan.specs.Demand.{demand_at}
use Rattle.network_file.specs.Network.{Network}
use Rattle.region_body.specs.Gates.{AreAsked, AreGatesKept, IsGateOf, IsGateKept, demand_into}
use Rattle.region_body.proofs.Moves.{demand_for}
use Rattle.region_body.specs.declared.gate.GatePlace.{GatePlace}
use Rattle.region_body.proofs.SameMaps.{map-same, sum_by-map}

-- gates that were asked are at the same places, and demand the same
pub gates-asked : (t : ℕ) (old new : List GatePlace) → AreAsked t old new → map (λ gate. gate.place) new ≡ map (λ gate. gate.place) old
gates-asked t old new all = map-same (λ gate. gate.place) old new all.long (λ k d within. ap (λ gate. gate.place) (all.each k d within))

pub demands-asked : (net : Network) (cells : List ℕ) (t : ℕ) (old new : List GatePlace) → AreAsked t old new → All (IsGateOf net cells t) old →
    All (IsGateOf net cells (t + 1)) new
demands-asked net cells t old new all gates = λ k d within.
    let inside : k < length old = omega (arith, all.long) in
    let is = gates k d inside in
    rw (all.each k d inside) (record { demand = is.demand; step = omega arith })

-- what gates bring to a place is the demand of their cells
pub demands-into : (net : Network) (t : ℕ) (cells : List ℕ) (p : ℕ) (gates : List GatePlace) → All (IsGateOf net cells t) gates →
    sum_by (demand_into t p) gates ≡ sum_by (demand_for net.plan t cells p) (map (λ gate. gate.place) gates)
demands-into net t cells p gates all =
    sum_by-same (IsGateOf net cells t) (demand_into t p) (λ gate. demand_for net.plan t cells p gate.place) gates
    (λ gate is. ap (λ x. if gate.place == p then x else 0) (is.demand t)) all
    ∙ sum_by-map (demand_for net.plan t cells p) (λ gate. gate.place) gates

-- gates that are kept

pub kept-none : (t : ℕ) (gates : List GatePlace) → All (λ gate. gate.timeline.step ≤ t) gates → AreGatesKept t gates gates
kept-none t gates come = record { long = refl; each = λ k d within. record { place = refl; demand = λ s. refl; step = come k d within } }

pub kept-set : (t : ℕ) (old new : List GatePlace) (m : ℕ) (gate : GatePlace) → AreGatesKept t old new → m < length old →
    ((d : GatePlace) → IsGateKept t (get_or old m d) gate) → AreGatesKept t old (set new m gate)
kept-set t old new m gate kept within is = record {
  long = length-set new m gate ∙ kept.long;
  each = λ k d inside. elim (cases_eq k m) [
    | inl same ↦ rw (same, get_or-set_same new m gate d (omega (arith, kept.long, within))) (is d)
    | inr other ↦ rw (get_or-set_other new m k gate d other) (kept.each k d inside)
  ];
}

pub gates-kept : (t : ℕ) (old new : List GatePlace) → AreGatesKept t old new → map (λ gate. gate.place) new ≡ map (λ gate. gate.place) old
gates-kept t old new all = map-same (λ gate. gate.place) old new all.long (λ k d within. (all.each k d within).place)

pub demands-kept : (net : Network) (cells : List ℕ) (t : ℕ) (old new : List GatePlace) → AreGatesKept t old new → All (IsGateOf net cells t) old →
    All (IsGateOf net cells t) new
demands-kept net cells t old new all gates = λ k d within.
    let inside : k < length old = omega (arith, all.long) in
    let is = all.each k d inside in
    record {
      demand = λ s. is.demand s ∙ (gates k d inside).demand s ∙ ap (λ p. demand_at net.plan (slice_index cells p) s) (sym is.place);
      step = is.step;
    }
