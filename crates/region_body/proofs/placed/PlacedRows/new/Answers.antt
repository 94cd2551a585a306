use Rattle.std.specs.Prelude.{All, None, slice_index}
use Rattle.std.proofs.Common.{◌≡◌, ℕ, length, sym, ap, subst, ◌∙◌, arith}
use Rattle.std.proofs.lemmas.List.{length-map, length-replicate, with_items_is}
use Rattle.network_file.specs.Sound.{IsNetwork}
use Rattle.flow_model.specs.Limits.{room_at}
use Rattle.cell_sweep.specs.CellStates.{cell_state_at}
use Rattle.connector_flow.specs.Space.{IsSpaceOf}
use Rattle.region_body.specs.FollowedLinks.{IsLinkThere}
use Rattle.region_body.proofs.Firsts.{AreOpened, opened-cell, opened-rows, opened-settled}
use Rattle.cell_sweep.proofs.Waits.{waited-none}
use Rattle.region_body.proofs.placed.PlacedRows.new.Goals as goal

pub invariant_of-result : goal.invariant_of-result
invariant_of-result c =
    let net = c.args.net.now in
    let t : ℕ = c.args.t in
    let cells = c.args.region.now.order.now.placed in
    let halo = c.args.region.now.halo.now in
    let connectors = c.args.region.now.connectors.now in
    let rows = c.args.rows.now in
    let sound : IsNetwork net = subst IsNetwork c.net.view_is c.net.invariant in
    let constants = c.in_ok-constants.constants.items in
    let first = c.in_ok-states.states.items in
    let after = c.join_cells.new.states in
    let value = c.deref_mut.ensures.value in
    let after_long : length after ≡ length first = c.join_cells.auto.states ∙ ap length value in
    let after_is = with_items_is c.in_ok-states.states after (c.join_cells.auto.states ∙ c.deref_mut.ensures.len) in
    let only_most : (p : ℕ) → cell_state_at after p ≡ record (cell_state_at first p) { most = (cell_state_at after p).most } =
    rw value at c.join_cells.ensures.only_most in
    let opened : AreOpened net t cells rows constants first after = record {
      sound = sound;
      in_time = c.requires.in_time;
      there = c.requires.cells.around.there;
      bounds = c.requires.bounds;
      constants_each = (rw c.placed-cells.ensures at c.in_ok-constants.ensures.one_each);
      first_each = (rw c.placed-cells.ensures at c.in_ok-states.ensures.one_each);
      after_each = after_long;
      constants_are = (rw c.placed-cells.ensures at c.in_ok-constants.ensures.each);
      first_is = (rw c.placed-cells.ensures at c.in_ok-states.ensures.each);
      only_most = only_most;
    } in
    let before_long : length c.in_ok-before.before.items ≡ length cells =
    ap length (rw c.placed-cells.ensures at c.in_ok-before.ensures) ∙ length-map cells (slice_index c.args.earlier.now) in
    rw (after_is, waited-none after) (opened-settled net t cells rows constants first after c.in_ok-before.before.items opened before_long)

pub returns-clause-placed : goal.returns-clause-placed
returns-clause-placed c =
    let net = c.args.net.now in
    let t : ℕ = c.args.t in
    let cells = c.args.region.now.order.now.placed in
    let halo = c.args.region.now.halo.now in
    let connectors = c.args.region.now.connectors.now in
    let rows = c.args.rows.now in
    let sound : IsNetwork net = subst IsNetwork c.net.view_is c.net.invariant in
    let constants = c.in_ok-constants.constants.items in
    let first = c.in_ok-states.states.items in
    let after = c.join_cells.new.states in
    let value = c.deref_mut.ensures.value in
    let after_long : length after ≡ length first = c.join_cells.auto.states ∙ ap length value in
    let after_is = with_items_is c.in_ok-states.states after (c.join_cells.auto.states ∙ c.deref_mut.ensures.len) in
    let only_most : (p : ℕ) → cell_state_at after p ≡ record (cell_state_at first p) { most = (cell_state_at after p).most } =
    rw value at c.join_cells.ensures.only_most in
    let opened : AreOpened net t cells rows constants first after = record {
      sound = sound;
      in_time = c.requires.in_time;
      there = c.requires.cells.around.there;
      bounds = c.requires.bounds;
      constants_each = (rw c.placed-cells.ensures at c.in_ok-constants.ensures.one_each);
      first_each = (rw c.placed-cells.ensures at c.in_ok-states.ensures.one_each);
      after_each = after_long;
      constants_are = (rw c.placed-cells.ensures at c.in_ok-constants.ensures.each);
      first_is = (rw c.placed-cells.ensures at c.in_ok-states.ensures.each);
      only_most = only_most;
    } in
    let before_long : length c.in_ok-before.before.items ≡ length cells =
    ap length (rw c.placed-cells.ensures at c.in_ok-before.ensures) ∙ length-map cells (slice_index c.args.earlier.now) in
    rw (after_is, waited-none after) (record {
      around = c.requires.cells.around;
      known = c.requires.cells.known;
      connected = record {
        distinct = c.requires.cells.around.distinct;
        apart = c.requires.cells.apart;
        each = c.in_ok-connections.ensures.connected;
      };
      numbers = c.in_ok-connections.ensures.numbers;
      one_each = after_long ∙ opened.first_each;
      constants_each = opened.constants_each;
      before_each = before_long;
      own = λ p within. (opened-cell net t cells rows constants first after p opened within).1;
      space = λ p within.
          subst (λ space. IsSpaceOf space (room_at net.cells (slice_index cells p))) (sym (ap (λ state. state.space) (only_most p)))
          (opened.first_is p within).space;
      come = c.in_ok-connections.ensures.come;
      unchanged = λ k d within. omega arith;
      gates = (rw c.placed-cells.ensures at c.in_ok-gates.ensures.places);
      demands = λ k d within. let is = (rw c.placed-cells.ensures at c.in_ok-gates.ensures.demands) k d within in record { demand = is.demand; step = omega (arith, is.step) };
      links = subst (λ n. All (IsLinkThere n t) c.in_ok-connections.connections.links.items) (sym (after_long ∙ opened.first_each)) c.in_ok-connections.ensures.links;
      speeds = (rw c.placed-cells.ensures at c.in_ok-speeds.ensures.speeds) t;
      zones = rw c.placed-cells.ensures at c.in_ok-speeds.ensures.zones;
      followed = c.in_ok-connections.ensures.followed;
      pause = record { idle = λ s none. absurd (omega (arith, none)); owed = omega arith; kept = λ some. absurd (omega (arith, some)) };
      seen_each = ap length c.in_ok-seen.ensures ∙ length-replicate (length halo) None;
    })

pub returns-clause-rows : goal.returns-clause-rows
returns-clause-rows c =
    let net = c.args.net.now in
    let t : ℕ = c.args.t in
    let cells = c.args.region.now.order.now.placed in
    let halo = c.args.region.now.halo.now in
    let connectors = c.args.region.now.connectors.now in
    let rows = c.args.rows.now in
    let sound : IsNetwork net = subst IsNetwork c.net.view_is c.net.invariant in
    let constants = c.in_ok-constants.constants.items in
    let first = c.in_ok-states.states.items in
    let after = c.join_cells.new.states in
    let value = c.deref_mut.ensures.value in
    let after_long : length after ≡ length first = c.join_cells.auto.states ∙ ap length value in
    let after_is = with_items_is c.in_ok-states.states after (c.join_cells.auto.states ∙ c.deref_mut.ensures.len) in
    let only_most : (p : ℕ) → cell_state_at after p ≡ record (cell_state_at first p) { most = (cell_state_at after p).most } =
    rw value at c.join_cells.ensures.only_most in
    let opened : AreOpened net t cells rows constants first after = record {
      sound = sound;
      in_time = c.requires.in_time;
      there = c.requires.cells.around.there;
      bounds = c.requires.bounds;
      constants_each = (rw c.placed-cells.ensures at c.in_ok-constants.ensures.one_each);
      first_each = (rw c.placed-cells.ensures at c.in_ok-states.ensures.one_each);
      after_each = after_long;
      constants_are = (rw c.placed-cells.ensures at c.in_ok-constants.ensures.each);
      first_is = (rw c.placed-cells.ensures at c.in_ok-states.ensures.each);
      only_most = only_most;
    } in
    let before_long : length c.in_ok-before.before.items ≡ length cells =
    ap length (rw c.placed-cells.ensures at c.in_ok-before.ensures) ∙ length-map cells (slice_index c.args.earlier.now) in
    rw (after_is, waited-none after) (opened-rows net t cells rows constants first after opened)
