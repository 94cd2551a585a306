use Rattle.std.specs.Prelude.{map, slice_index, sum_by}
use Rattle.std.proofs.Common.{◌≡◌, ◌<◌, ℕ, List, length, sym, ap, subst, ◌∙◌, arith}
use Rattle.std.specs.Vec.{with_items}
use Rattle.std.proofs.lemmas.List.{with_items_is}
use Rattle.step_plan.specs.SpeedBounds.{IsSpeed}
use Rattle.network_file.specs.Sound.{IsNetwork}
use Rattle.flow_model.proofs.CellLimits.{speed_at-sound}
use Rattle.cell_sweep.specs.CellStates.{cell_state_at, swept, with_entered}
use Rattle.cell_sweep.specs.declared.cell_state.CellState.{CellState}
use Rattle.region_body.specs.Carrying.{AreConnectorsFollowed, passed}
use Rattle.region_body.specs.Gates.{demand_into}
use Rattle.region_body.specs.Placed.{CanAdvance, PlacedCells}
use Rattle.cell_sweep.specs.Waiting.{waited}
use Rattle.region_body.specs.declared.gate.GatePlace.{GatePlace}
use Rattle.region_body.specs.declared.followed_connector.FollowedConnector.{FollowedConnector}
use Rattle.cell_sweep.proofs.Waits.{waited-unowed}
use Rattle.region_body.proofs.Stepped.{IsSwept, can-carry-each, can-enter-each, can-pass-each, carried_to, ins_of, outs_of, steps-of}
use Rattle.cell_sweep.specs.Speeds.{at_speeds}
use Rattle.region_body.proofs.Renewed.{IsFresh, Renewal, fresh-of, sending, sound-sending}
use Rattle.region_body.proofs.Whole.{AreSteps, can-sweep, gates-there, placed-after, placed-read, rows-after, rows-read, settled-after, sound-fresh}
use Rattle.region_body.specs.declared.placed.PlacedRows.TheInside.{Inside}
use Rattle.region_body.proofs.placed.PlacedRows.take_step.Goals.{After-follow_connectors-self-inside}
use Rattle.region_body.proofs.placed.PlacedRows.take_step.Goals as goal

-- the cells as they were
abbrev opened : Inside → PlacedCells
opened rows = record {
  states = rows.states.items;
  constants = rows.constants.items;
  before = rows.before.items;
  speeds = rows.speeds.items;
  zones = rows.zones.items;
  speed_timelines = rows.speed_timelines.items;
  speeds_until = rows.speeds_until;
  links = rows.links.items;
  connectors = rows.connectors.items;
  connectors_until = rows.connectors_until;
  gates = rows.gates.items;
  pause = rows.pause;
  seen = rows.seen.items;
}

-- as contracts see them
abbrev viewed : Inside → PlacedCells
viewed rows = record (opened rows) { states = map (waited rows.pause.owed) rows.states.items }

opened-is : (rows : Inside) (now : PlacedCells) → viewed rows ≡ now → now.pause.owed ≡ 0 → opened rows ≡ now
opened-is rows now is none =
    let same : map (waited rows.pause.owed) rows.states.items ≡ rows.states.items =
    waited-unowed rows.pause.owed rows.states.items (ap (λ cells. cells.pause.owed) is ∙ none) in
    rw same at is

-- once the links and the other connectors are followed

abbrev Can : After-follow_connectors-self-inside → Type 0
Can c = CanAdvance c.args.net.now c.args.cells.now c.args.t (opened c.self.inside) c.args.put.now

can-step : (c : After-follow_connectors-self-inside) → Can c
can-step c = subst (λ from. CanAdvance c.args.net.now c.args.cells.now c.args.t from c.args.put.now) (sym (opened-is c.self.inside c.args.self.now c.self.view_is c.requires.none_owed)) c.requires.can

none-owed : (c : After-follow_connectors-self-inside) → c.self.inside.pause.owed ≡ 0
none-owed c = ap (λ cells. cells.pause.owed) c.self.view_is ∙ c.requires.none_owed

sound : (c : After-follow_connectors-self-inside) → IsNetwork c.args.net.now
sound c = subst IsNetwork c.net.view_is c.net.invariant

-- what is renewed for the step
abbrev renewed : After-follow_connectors-self-inside → Renewal
renewed c = record {
  states = c.refresh.new.states;
  links = c.refresh.new.links;
  timelines = c.follow_speeds-self-inside.new.timelines;
  speeds = c.follow_speeds-self-inside.new.speeds;
  until = c.follow_speeds-self-inside.result;
}

fresh : (c : After-follow_connectors-self-inside) (can : Can c) → IsFresh c.args.net.now c.args.cells.now can.halo can.connectors c.args.t (opened c.self.inside) (renewed c)
fresh c can = fresh-of c.args.net.now c.args.cells.now can.halo can.connectors c.args.t (opened c.self.inside) (renewed c) (sound c) can.laid (record {
  long = c.refresh.auto.states ∙ ap length c.deref_mut-2.ensures.value;
  there = rw c.deref_mut-2.ensures.value at c.refresh.ensures.there;
  most = rw (c.deref_mut.ensures.value, c.deref_mut-2.ensures.value) at c.refresh.ensures.most;
  followed = rw (c.deref_mut.ensures.value, c.deref_mut-2.ensures.value) at c.refresh.ensures.followed;
  speeds_long = c.follow_speeds-self-inside.auto.speeds ∙ ap length c.deref_mut-4.ensures.value;
  speeds_there = rw c.deref_mut-4.ensures.value at c.follow_speeds-self-inside.ensures.there;
  as_before = rw c.deref_mut-3.ensures.value at c.follow_speeds-self-inside.ensures.as_before;
  later = c.follow_speeds-self-inside.ensures.later;
  in_force = rw (c.deref_mut-3.ensures.value, c.deref_mut-4.ensures.value) at c.follow_speeds-self-inside.ensures.in_force;
  others = rw (c.deref_mut-3.ensures.value, c.deref_mut-4.ensures.value) at c.follow_speeds-self-inside.ensures.others;
})

fresh-is : (c : After-follow_connectors-self-inside) → (with_items c.self.inside.states c.refresh.new.states).items ≡ c.refresh.new.states
fresh-is c = with_items_is c.self.inside.states c.refresh.new.states (c.refresh.auto.states ∙ c.deref_mut-2.ensures.len)

speeds-are : (c : After-follow_connectors-self-inside) → (with_items c.self.inside.speeds c.follow_speeds-self-inside.new.speeds).items ≡ c.follow_speeds-self-inside.new.speeds
speeds-are c = with_items_is c.self.inside.speeds c.follow_speeds-self-inside.new.speeds (c.follow_speeds-self-inside.auto.speeds ∙ c.deref_mut-4.ensures.len)

followed : (c : After-follow_connectors-self-inside) → AreConnectorsFollowed c.args.t (opened c.self.inside).connectors c.follow_connectors-self-inside.new.connectors
followed c = rw c.deref_mut-5.ensures.value at c.follow_connectors-self-inside.ensures.connectors

connectors-are : (c : After-follow_connectors-self-inside) → (with_items c.self.inside.connectors c.follow_connectors-self-inside.new.connectors).items ≡ c.follow_connectors-self-inside.new.connectors
connectors-are c = with_items_is c.self.inside.connectors c.follow_connectors-self-inside.new.connectors (c.follow_connectors-self-inside.auto.connectors ∙ c.deref_mut-5.ensures.len)

-- once the states are swept
abbrev Swept : (c : After-follow_connectors-self-inside) → Can c → (states : List CellState) → (before : List ℕ) → Type 0
Swept c can states before =
    IsSwept c.args.net.now c.args.cells.now can.halo can.connectors c.args.t can.n (opened c.self.inside) c.args.put.now (renewed c) c.follow_connectors-self-inside.new.connectors states before

is-swept : (c : After-follow_connectors-self-inside) (can : Can c) (states : List CellState) (speeds : List (ℕ × ℕ)) (swept_states : List CellState) (before : List ℕ) → states ≡ c.refresh.new.states →
    speeds ≡ c.follow_speeds-self-inside.new.speeds →
    length swept_states ≡ length states → ((p : ℕ) → p < length states → cell_state_at swept_states p ≡ swept states (at_speeds states speeds) p) →
    ((p : ℕ) → p < length states → slice_index before p ≡ (cell_state_at states p).n) → length before ≡ length (opened c.self.inside).before → Swept c can swept_states before
is-swept c can states speeds swept_states before same quick long each noted noted_long = record {
  sound = sound c;
  in_time = c.requires.in_time;
  laid = can.laid;
  bounds = can.bounds;
  seen = can.seen;
  now = fresh c can;
  followed = followed c;
  long = long ∙ ap length same;
  swept_each = rw (same, quick) at each;
  noted_long = noted_long ∙ can.laid.before_each ∙ sym can.laid.one_each ∙ sym (fresh c can).kept.long;
  noted = rw same at noted;
}

swept-is : (c : After-follow_connectors-self-inside) (states swept_states : List CellState) → states ≡ c.refresh.new.states → length swept_states ≡ length states →
    (with_items (with_items c.self.inside.states c.refresh.new.states) swept_states).items ≡ swept_states
swept-is c states swept_states same long =
    with_items_is (with_items c.self.inside.states c.refresh.new.states) swept_states (long ∙ ap length same ∙ c.refresh.auto.states ∙ c.deref_mut-2.ensures.len)

pub follow_speeds-self-inside-requires-clause-speeds : goal.follow_speeds-self-inside-requires-clause-speeds
follow_speeds-self-inside-requires-clause-speeds c =
    let can = subst (λ from. CanAdvance c.args.net.now c.args.cells.now c.args.t from c.args.put.now) (sym (opened-is c.self.inside c.args.self.now c.self.view_is c.requires.none_owed)) c.requires.can in
    let sound : IsNetwork c.args.net.now = subst IsNetwork c.net.view_is c.net.invariant in
    rw c.deref_mut-3.ensures.value (λ k d within s. subst IsSpeed (sym (can.laid.speeds.values k d within s)) (speed_at-sound c.args.net.now _ s sound))

pub sweep_all-requires-clause-sound : goal.sweep_all-requires-clause-sound
sweep_all-requires-clause-sound c =
    let e : After-follow_connectors-self-inside = (goal.at.sweep_all-requires-clause-sound c).After-follow_connectors-self-inside in
    let can = can-step e in
    let new = fresh e can in
    rw (c.deref_mut-6.ensures.value ∙ fresh-is e)
    (sound-sending c.refresh.new.states c.follow_speeds-self-inside.new.speeds
    (sound-fresh c.args.net.now c.args.t can.n c.args.cells.now can.halo can.connectors (opened c.self.inside) (sending (renewed e)) c.args.put.now (sound e) c.requires.in_time
    can.laid can.bounds can.seen new.renewed))

pub sweep_all-requires-clause-can : goal.sweep_all-requires-clause-can
sweep_all-requires-clause-can c =
    let e : After-follow_connectors-self-inside = (goal.at.sweep_all-requires-clause-can c).After-follow_connectors-self-inside in
    let can = can-step e in
    rw (c.deref_mut-6.ensures.value ∙ fresh-is e, c.deref.ensures.value ∙ speeds-are e, c.deref-2.ensures.value)
    (can-sweep c.args.net.now c.args.t can.n c.args.cells.now can.halo can.connectors (opened c.self.inside) c.args.put.now (renewed e) (sound e) c.requires.in_time
    can.laid can.bounds can.seen (fresh e can))

pub carry_all-requires-clause-each : goal.carry_all-requires-clause-each
carry_all-requires-clause-each c =
    let e : After-follow_connectors-self-inside = (goal.at.carry_all-requires-clause-each c).After-follow_connectors-self-inside in
    let can = can-step e in
    let states = c.sweep_all.new.states in
    let before = c.sweep_all.new.before in
    let others : List FollowedConnector = c.follow_connectors-self-inside.new.connectors in
    let same : c.deref_mut-6.result.now ≡ c.refresh.new.states = c.deref_mut-6.ensures.value ∙ fresh-is e in
    let is = is-swept e can c.deref_mut-6.result.now c.deref.result.now states before same (c.deref.ensures.value ∙ speeds-are e) c.sweep_all.auto.states c.sweep_all.ensures.states c.sweep_all.ensures.before (c.sweep_all.auto.before ∙ ap length c.deref_mut-7.ensures.value) in
    rw (c.deref_mut-8.ensures.value ∙ swept-is e c.deref_mut-6.result.now states same c.sweep_all.auto.states, c.deref-3.ensures.value ∙ connectors-are e)
    (λ k d within. can-carry-each c.args.net.now c.args.cells.now can.halo can.connectors c.args.t can.n (opened c.self.inside) c.args.put.now (renewed e) others states before k d is within)

pub carry_all-requires-clause-can : goal.carry_all-requires-clause-can
carry_all-requires-clause-can c =
    let e : After-follow_connectors-self-inside = (goal.at.carry_all-requires-clause-can c).After-follow_connectors-self-inside in
    let can = can-step e in
    let states = c.sweep_all.new.states in
    let before = c.sweep_all.new.before in
    let others : List FollowedConnector = c.follow_connectors-self-inside.new.connectors in
    let same : c.deref_mut-6.result.now ≡ c.refresh.new.states = c.deref_mut-6.ensures.value ∙ fresh-is e in
    let is = is-swept e can c.deref_mut-6.result.now c.deref.result.now states before same (c.deref.ensures.value ∙ speeds-are e) c.sweep_all.auto.states c.sweep_all.ensures.states c.sweep_all.ensures.before (c.sweep_all.auto.before ∙ ap length c.deref_mut-7.ensures.value) in
    rw (
      c.deref_mut-8.ensures.value ∙ swept-is e c.deref_mut-6.result.now states same c.sweep_all.auto.states,
      c.deref-3.ensures.value ∙ connectors-are e,
      c.deref-4.ensures.value ∙ speeds-are e,
      c.deref-5.ensures.value ∙ with_items_is c.self.inside.before before (c.sweep_all.auto.before ∙ c.deref_mut-7.ensures.len),
    )
    (λ p within. can-pass-each c.args.net.now c.args.cells.now can.halo can.connectors c.args.t can.n (opened c.self.inside) c.args.put.now (renewed e) others states before p is within)

-- once the other connectors have carried

carried-is : (c : After-follow_connectors-self-inside) (states swept_states before_carry carried : List CellState) → states ≡ c.refresh.new.states → length swept_states ≡ length states →
    before_carry ≡ swept_states → length carried ≡ length before_carry →
    (with_items (with_items (with_items c.self.inside.states c.refresh.new.states) swept_states) carried).items ≡ carried
carried-is c states swept_states before_carry carried same long same_swept long_carried =
    with_items_is (with_items (with_items c.self.inside.states c.refresh.new.states) swept_states) carried
    (long_carried ∙ ap length same_swept ∙ long ∙ ap length same ∙ c.refresh.auto.states ∙ c.deref_mut-2.ensures.len)

pub bring_demands-requires-clause-there : goal.bring_demands-requires-clause-there
bring_demands-requires-clause-there c =
    let e : After-follow_connectors-self-inside = (goal.at.bring_demands-requires-clause-there c).After-follow_connectors-self-inside in
    let can = can-step e in
    let new = fresh e can in
    let states = c.sweep_all.new.states in
    let same : c.deref_mut-6.result.now ≡ c.refresh.new.states = c.deref_mut-6.ensures.value ∙ fresh-is e in
    let swept_is : c.deref_mut-8.result.now ≡ states = c.deref_mut-8.ensures.value ∙ swept-is e c.deref_mut-6.result.now states same c.sweep_all.auto.states in
    let carried_is : c.deref_mut-10.result.now ≡ c.carry_all.new.states =
    c.deref_mut-10.ensures.value ∙ carried-is e c.deref_mut-6.result.now states c.deref_mut-8.result.now c.carry_all.new.states same c.sweep_all.auto.states swept_is c.carry_all.auto.states in
    let long : length c.deref_mut-10.result.now ≡ length c.args.cells.now =
    ap length carried_is ∙ c.carry_all.auto.states ∙ ap length swept_is ∙ c.sweep_all.auto.states ∙ ap length same ∙ new.kept.long ∙ can.laid.one_each in
    rw (c.deref_mut-9.ensures.value, long) (gates-there c.args.net.now c.args.cells.now can.halo can.connectors c.args.t (opened c.self.inside) can.laid)

pub bring_demands-requires-clause-fits : goal.bring_demands-requires-clause-fits
bring_demands-requires-clause-fits c =
    let e : After-follow_connectors-self-inside = (goal.at.bring_demands-requires-clause-fits c).After-follow_connectors-self-inside in
    let can = can-step e in
    let states = c.sweep_all.new.states in
    let before = c.sweep_all.new.before in
    let others : List FollowedConnector = c.follow_connectors-self-inside.new.connectors in
    let same : c.deref_mut-6.result.now ≡ c.refresh.new.states = c.deref_mut-6.ensures.value ∙ fresh-is e in
    let is = is-swept e can c.deref_mut-6.result.now c.deref.result.now states before same (c.deref.ensures.value ∙ speeds-are e) c.sweep_all.auto.states c.sweep_all.ensures.states c.sweep_all.ensures.before (c.sweep_all.auto.before ∙ ap length c.deref_mut-7.ensures.value) in
    let swept_is : c.deref_mut-8.result.now ≡ states = c.deref_mut-8.ensures.value ∙ swept-is e c.deref_mut-6.result.now states same c.sweep_all.auto.states in
    let carried_is : c.deref_mut-10.result.now ≡ c.carry_all.new.states =
    c.deref_mut-10.ensures.value ∙ carried-is e c.deref_mut-6.result.now states c.deref_mut-8.result.now c.carry_all.new.states same c.sweep_all.auto.states swept_is c.carry_all.auto.states in
    let passes : (p : ℕ) → p < length states → cell_state_at c.carry_all.new.states p ≡
    passed (cell_state_at states p) (carried_to c.args.t c.follow_speeds-self-inside.new.speeds before c.args.put.now others p) (outs_of c.args.t c.follow_speeds-self-inside.new.speeds before c.args.put.now others p) =
    rw (swept_is, c.deref-3.ensures.value ∙ connectors-are e, c.deref-4.ensures.value ∙ speeds-are e, c.deref-5.ensures.value ∙ with_items_is c.self.inside.before before (c.sweep_all.auto.before ∙ c.deref_mut-7.ensures.len)) at c.carry_all.ensures in
    rw (carried_is, c.deref_mut-9.ensures.value)
    (λ p within. can-enter-each c.args.net.now c.args.cells.now can.halo can.connectors c.args.t can.n (opened c.self.inside) c.args.put.now (renewed e) others states before c.carry_all.new.states p is (c.carry_all.auto.states ∙ ap length swept_is) passes within)

-- once the gates have demanded

taken-steps : (c : After-follow_connectors-self-inside) (can : Can c) (speeds : List (ℕ × ℕ)) (states swept_states before_carry carried before_demands after : List CellState) (before own : List ℕ) (own_speeds : List (ℕ × ℕ)) (others : List FollowedConnector) →
    (gates : List GatePlace) → speeds ≡ c.follow_speeds-self-inside.new.speeds → states ≡ c.refresh.new.states → length swept_states ≡ length states → ((p : ℕ) → p < length states → cell_state_at swept_states p ≡ swept states (at_speeds states speeds) p) →
    ((p : ℕ) → p < length states → slice_index before p ≡ (cell_state_at states p).n) → length before ≡ length (opened c.self.inside).before → before_carry ≡ swept_states → others ≡ c.follow_connectors-self-inside.new.connectors → own ≡ before → own_speeds ≡ c.follow_speeds-self-inside.new.speeds →
    length carried ≡ length before_carry →
    ((p : ℕ) → p < length before_carry → cell_state_at carried p ≡
    passed (cell_state_at before_carry p) (carried_to c.args.t own_speeds own c.args.put.now others p) (outs_of c.args.t own_speeds own c.args.put.now others p)) →
    before_demands ≡ carried → gates ≡ (opened c.self.inside).gates → length after ≡ length before_demands →
    ((p : ℕ) → p < length before_demands → cell_state_at after p ≡ with_entered (cell_state_at before_demands p) (sum_by (demand_into c.args.t p) gates)) →
    AreSteps c.args.net.now c.args.cells.now can.halo can.connectors c.args.t can.n (opened c.self.inside) (renewed c) (outs_of c.args.t c.follow_speeds-self-inside.new.speeds before c.args.put.now c.follow_connectors-self-inside.new.connectors) (carried_to c.args.t c.follow_speeds-self-inside.new.speeds before c.args.put.now c.follow_connectors-self-inside.new.connectors)
    (ins_of c.args.t c.follow_speeds-self-inside.new.speeds before c.args.put.now c.follow_connectors-self-inside.new.connectors (opened c.self.inside)) after
taken-steps c can speeds states swept_states before_carry carried before_demands after before own own_speeds others gates quick same long each noted noted_long swept_same others_same own_same speeds_same long_carried passes
    carried_same gates_same long_after enters =
    let is = is-swept c can states speeds swept_states before same quick long each noted noted_long in
    steps-of c.args.net.now c.args.cells.now can.halo can.connectors c.args.t can.n (opened c.self.inside) c.args.put.now (renewed c) c.follow_connectors-self-inside.new.connectors swept_states before carried after is (long_carried ∙ ap length swept_same) (long_after ∙ ap length carried_same)
    (rw (swept_same, others_same, own_same, speeds_same) at passes) (rw (carried_same, gates_same) at enters)

pub returns-clause-rows : goal.returns-clause-rows
returns-clause-rows c =
    let e : After-follow_connectors-self-inside = (goal.at.returns-clause-rows c).After-follow_connectors-self-inside in
    let first = c.refresh.new.states in
    let states = c.sweep_all.new.states in
    let noted = c.sweep_all.new.before in
    let carried = c.carry_all.new.states in
    let after = c.bring_demands.new.states in
    let others : List FollowedConnector = c.follow_connectors-self-inside.new.connectors in
    let same : c.deref_mut-6.result.now ≡ first = c.deref_mut-6.ensures.value ∙ fresh-is e in
    let swept_is : c.deref_mut-8.result.now ≡ states = c.deref_mut-8.ensures.value ∙ swept-is e c.deref_mut-6.result.now states same c.sweep_all.auto.states in
    let carried_is : c.deref_mut-10.result.now ≡ carried =
    c.deref_mut-10.ensures.value ∙ carried-is e c.deref_mut-6.result.now states c.deref_mut-8.result.now carried same c.sweep_all.auto.states swept_is c.carry_all.auto.states in
    let before_is = with_items_is c.self.inside.before noted (c.sweep_all.auto.before ∙ c.deref_mut-7.ensures.len) in
    let after_is =
    with_items_is (with_items (with_items (with_items c.self.inside.states first) states) carried) after
    (c.bring_demands.auto.states ∙ ap length carried_is ∙ c.carry_all.auto.states ∙ ap length swept_is ∙ c.sweep_all.auto.states ∙ ap length same
    ∙ c.refresh.auto.states ∙ c.deref_mut-2.ensures.len) in
    let steps = λ (can : Can e).
    taken-steps e can c.deref.result.now c.deref_mut-6.result.now states c.deref_mut-8.result.now carried c.deref_mut-10.result.now after noted c.deref-5.result.now c.deref-4.result.now c.deref-3.result.now
    c.deref_mut-9.result.now (c.deref.ensures.value ∙ speeds-are e) same c.sweep_all.auto.states c.sweep_all.ensures.states c.sweep_all.ensures.before (c.sweep_all.auto.before ∙ ap length c.deref_mut-7.ensures.value) swept_is (c.deref-3.ensures.value ∙ connectors-are e)
    (c.deref-5.ensures.value ∙ before_is) (c.deref-4.ensures.value ∙ speeds-are e) c.carry_all.auto.states c.carry_all.ensures carried_is c.deref_mut-9.ensures.value c.bring_demands.auto.states
    c.bring_demands.ensures.states in
    rw (after_is, waited-unowed c.self.inside.pause.owed after (none-owed e)) (
    rows-read c.args.net.now c.args.cells.now c.args.t (opened c.self.inside) c.args.self.now c.args.put.now c.self.inside.constants.items after (opened-is c.self.inside c.args.self.now c.self.view_is c.requires.none_owed)
    (λ can.
    rows-after c.args.net.now c.args.cells.now can.halo can.connectors c.args.t can.n (opened c.self.inside) (renewed e) (outs_of c.args.t c.follow_speeds-self-inside.new.speeds noted c.args.put.now others) (carried_to c.args.t c.follow_speeds-self-inside.new.speeds noted c.args.put.now others) (ins_of c.args.t c.follow_speeds-self-inside.new.speeds noted c.args.put.now others (opened c.self.inside)) after
    c.args.put.now (sound e) c.requires.in_time can.laid can.bounds can.seen (steps can)))

pub returns-clause-placed : goal.returns-clause-placed
returns-clause-placed c =
    let e : After-follow_connectors-self-inside = (goal.at.returns-clause-placed c).After-follow_connectors-self-inside in
    let first = c.refresh.new.states in
    let states = c.sweep_all.new.states in
    let noted = c.sweep_all.new.before in
    let carried = c.carry_all.new.states in
    let after = c.bring_demands.new.states in
    let others : List FollowedConnector = c.follow_connectors-self-inside.new.connectors in
    let same : c.deref_mut-6.result.now ≡ first = c.deref_mut-6.ensures.value ∙ fresh-is e in
    let swept_is : c.deref_mut-8.result.now ≡ states = c.deref_mut-8.ensures.value ∙ swept-is e c.deref_mut-6.result.now states same c.sweep_all.auto.states in
    let carried_is : c.deref_mut-10.result.now ≡ carried =
    c.deref_mut-10.ensures.value ∙ carried-is e c.deref_mut-6.result.now states c.deref_mut-8.result.now carried same c.sweep_all.auto.states swept_is c.carry_all.auto.states in
    let before_is = with_items_is c.self.inside.before noted (c.sweep_all.auto.before ∙ c.deref_mut-7.ensures.len) in
    let after_is =
    with_items_is (with_items (with_items (with_items c.self.inside.states first) states) carried) after
    (c.bring_demands.auto.states ∙ ap length carried_is ∙ c.carry_all.auto.states ∙ ap length swept_is ∙ c.sweep_all.auto.states ∙ ap length same
    ∙ c.refresh.auto.states ∙ c.deref_mut-2.ensures.len) in
    let steps = λ (can : Can e).
    taken-steps e can c.deref.result.now c.deref_mut-6.result.now states c.deref_mut-8.result.now carried c.deref_mut-10.result.now after noted c.deref-5.result.now c.deref-4.result.now c.deref-3.result.now
    c.deref_mut-9.result.now (c.deref.ensures.value ∙ speeds-are e) same c.sweep_all.auto.states c.sweep_all.ensures.states c.sweep_all.ensures.before (c.sweep_all.auto.before ∙ ap length c.deref_mut-7.ensures.value) swept_is (c.deref-3.ensures.value ∙ connectors-are e)
    (c.deref-5.ensures.value ∙ before_is) (c.deref-4.ensures.value ∙ speeds-are e) c.carry_all.auto.states c.carry_all.ensures carried_is c.deref_mut-9.ensures.value c.bring_demands.auto.states
    c.bring_demands.ensures.states in
    let placed : PlacedCells = opened c.self.inside in
    let gates = c.bring_demands.new.gates in
    let pause = c.self.inside.pause in
    let none = none-owed e in
    let until : pause.until ≡ 0 = ap (λ cells. cells.pause.until) c.self.view_is ∙ c.requires.awake in
    let noted_long : length noted ≡ length placed.before = c.sweep_all.auto.before ∙ ap length c.deref_mut-7.ensures.value in
    rw (
      after_is,
      waited-unowed pause.owed after none,
      with_items_is c.self.inside.links c.refresh.new.links (c.refresh.auto.links ∙ c.deref_mut.ensures.len),
      with_items_is c.self.inside.speeds c.follow_speeds-self-inside.new.speeds (c.follow_speeds-self-inside.auto.speeds ∙ c.deref_mut-4.ensures.len),
      with_items_is c.self.inside.speed_timelines c.follow_speeds-self-inside.new.timelines (c.follow_speeds-self-inside.auto.timelines ∙ c.deref_mut-3.ensures.len),
      before_is,
      connectors-are e,
      with_items_is c.self.inside.gates gates (c.bring_demands.auto.gates ∙ c.deref_mut-9.ensures.len),
    )
    (placed-read c.args.net.now c.args.cells.now c.args.t placed c.args.self.now c.args.put.now _ (opened-is c.self.inside c.args.self.now c.self.view_is c.requires.none_owed)
    (λ can.
    placed-after c.args.net.now c.args.cells.now can.halo can.connectors c.args.t can.n placed (renewed e) (outs_of c.args.t c.follow_speeds-self-inside.new.speeds noted c.args.put.now others) (carried_to c.args.t c.follow_speeds-self-inside.new.speeds noted c.args.put.now others) (ins_of c.args.t c.follow_speeds-self-inside.new.speeds noted c.args.put.now others placed) after
    noted others c.follow_connectors-self-inside.result gates pause c.self.inside.seen.items c.args.put.now (sound e) c.requires.in_time can.laid can.bounds can.seen (steps can) noted_long
    (followed e) c.follow_connectors-self-inside.ensures.until (rw c.deref_mut-9.ensures.value at c.bring_demands.ensures.gates)
    (record { idle = λ s less. absurd (omega (arith, less, until)); owed = omega (arith, none); kept = λ some. absurd (omega (arith, none, some)) })
    can.laid.seen_each))

pub returns-clause-before : goal.returns-clause-before
returns-clause-before c = λ p within.
    let e : After-follow_connectors-self-inside = (goal.at.returns-clause-before c).After-follow_connectors-self-inside in
    let can = can-step e in
    let new = fresh e can in
    let states : c.deref_mut-6.result.now ≡ c.refresh.new.states = c.deref_mut-6.ensures.value ∙ fresh-is e in
    let here : p < length c.self.inside.states.items = omega (arith, can.laid.one_each) in
    let there : p < length c.deref_mut-6.result.now = omega (arith, ap length states, new.kept.long) in
    rw (with_items_is c.self.inside.before c.sweep_all.new.before (c.sweep_all.auto.before ∙ c.deref_mut-7.ensures.len)) (
    c.sweep_all.ensures.before p there ∙ ap (λ list. (cell_state_at list p).n) states ∙ ap (λ state. state.n) (new.kept.only_most p here)
    ∙ ap (λ cells. (cell_state_at cells.states p).n) (opened-is c.self.inside c.args.self.now c.self.view_is c.requires.none_owed)
    )

pub invariant_of-self : goal.invariant_of-self
invariant_of-self c =
    let e : After-follow_connectors-self-inside = (goal.at.invariant_of-self c).After-follow_connectors-self-inside in
    let first = c.refresh.new.states in
    let states = c.sweep_all.new.states in
    let noted = c.sweep_all.new.before in
    let carried = c.carry_all.new.states in
    let after = c.bring_demands.new.states in
    let others : List FollowedConnector = c.follow_connectors-self-inside.new.connectors in
    let same : c.deref_mut-6.result.now ≡ first = c.deref_mut-6.ensures.value ∙ fresh-is e in
    let swept_is : c.deref_mut-8.result.now ≡ states = c.deref_mut-8.ensures.value ∙ swept-is e c.deref_mut-6.result.now states same c.sweep_all.auto.states in
    let carried_is : c.deref_mut-10.result.now ≡ carried =
    c.deref_mut-10.ensures.value ∙ carried-is e c.deref_mut-6.result.now states c.deref_mut-8.result.now carried same c.sweep_all.auto.states swept_is c.carry_all.auto.states in
    let before_is = with_items_is c.self.inside.before noted (c.sweep_all.auto.before ∙ c.deref_mut-7.ensures.len) in
    let after_is =
    with_items_is (with_items (with_items (with_items c.self.inside.states first) states) carried) after
    (c.bring_demands.auto.states ∙ ap length carried_is ∙ c.carry_all.auto.states ∙ ap length swept_is ∙ c.sweep_all.auto.states ∙ ap length same
    ∙ c.refresh.auto.states ∙ c.deref_mut-2.ensures.len) in
    let steps = λ (can : Can e).
    taken-steps e can c.deref.result.now c.deref_mut-6.result.now states c.deref_mut-8.result.now carried c.deref_mut-10.result.now after noted c.deref-5.result.now c.deref-4.result.now c.deref-3.result.now
    c.deref_mut-9.result.now (c.deref.ensures.value ∙ speeds-are e) same c.sweep_all.auto.states c.sweep_all.ensures.states c.sweep_all.ensures.before (c.sweep_all.auto.before ∙ ap length c.deref_mut-7.ensures.value) swept_is (c.deref-3.ensures.value ∙ connectors-are e)
    (c.deref-5.ensures.value ∙ before_is) (c.deref-4.ensures.value ∙ speeds-are e) c.carry_all.auto.states c.carry_all.ensures carried_is c.deref_mut-9.ensures.value c.bring_demands.auto.states
    c.bring_demands.ensures.states in
    let can = can-step e in
    let noted_long : length noted ≡ length (opened c.self.inside).before = c.sweep_all.auto.before ∙ ap length c.deref_mut-7.ensures.value in
    rw (after_is, waited-unowed c.self.inside.pause.owed after (none-owed e), before_is)
    (settled-after c.args.net.now c.args.cells.now can.halo can.connectors c.args.t can.n (opened c.self.inside) (renewed e) (outs_of c.args.t c.follow_speeds-self-inside.new.speeds noted c.args.put.now others) (carried_to c.args.t c.follow_speeds-self-inside.new.speeds noted c.args.put.now others) (ins_of c.args.t c.follow_speeds-self-inside.new.speeds noted c.args.put.now others (opened c.self.inside)) after
    noted c.args.put.now (sound e) c.requires.in_time can.laid can.bounds can.seen (steps can) noted_long)
