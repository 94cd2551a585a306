use Rattle.std.specs.Prelude.{slice_index}
use Rattle.std.specs.List.{filter, range_with_len}
use Rattle.std.proofs.Common.{◌≡◌, ◌++◌, ◌∷◌, [], Bool, true, false, cond, ℕ, List, ap, sym, ◌∙◌, arith}
use Rattle.std.proofs.lemmas.List.{append-nil, map-append}
use Rattle.std.proofs.lemmas.List.Elements.{All-push}
use Rattle.network_file.specs.Cells.{is_gate_at}
use Rattle.region_cut.proofs.Ranges.{filter_range_more}
use Rattle.step_plan.specs.Demand.{demand_at}
use Rattle.region_body.specs.Gates.{IsGateOf}
use Rattle.region_body.specs.declared.gate.GatePlace.{GatePlace}
use Rattle.region_body.proofs.opening.gates_of.Goals.{then-is_gate+in_ok-demand_of+in_ok-push, else-is_gate}
use Rattle.region_body.proofs.opening.gates_of.Goals as goal

pub loop-p-preserved : goal.loop-p-preserved
loop-p-preserved c =
    let cells = c.args.cells.now in
    let net = c.args.net.now in
    let p : ℕ = c.loop-p.p in
    let is_gate : ℕ → Bool = λ q. is_gate_at net.cells (slice_index cells q) in
    let first : List ℕ = filter is_gate (range_with_len 0 p) in
    let more = filter_range_more is_gate p in
    elim c.if-is_gate.branch [
      | then-is_gate+in_ok-demand_of+in_ok-push w ↦
          let is : is_gate p ≡ true = sym c.is_gate.ensures ∙ w.if-is_gate.true in
          let gate : GatePlace = record { place = p; timeline = w.in_ok-demand_of.field-0 } in
          let items = w.in_ok-push.ensures.items in
          rw (w.gates-is, items) (record {
            places = map-append (λ gate. gate.place) c.loop-p.gates.items (gate ∷ []) ∙ ap (λ list. list ++ p ∷ []) c.loop-p.invariant.places
                ∙ sym (more ∙ ap (λ b. first ++ cond b (p ∷ []) []) is);
            demands = All-push (IsGateOf net cells 0) c.loop-p.gates.items gate c.loop-p.invariant.demands (record {
              demand = λ s. w.in_ok-demand_of.ensures.demand s ∙ ap (λ net. demand_at net.plan (slice_index cells p) s) c.net.view_is;
              step = omega (arith, w.in_ok-demand_of.ensures.step);
            });
          })
      | else-is_gate w ↦
          let is : is_gate p ≡ false = sym c.is_gate.ensures ∙ w.if-is_gate.false in
          rw w.gates-is (record {
            places = c.loop-p.invariant.places ∙ sym (more ∙ ap (λ b. first ++ cond b (p ∷ []) []) is ∙ append-nil first);
            demands = c.loop-p.invariant.demands;
          })
    ]
