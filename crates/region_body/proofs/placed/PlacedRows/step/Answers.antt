use Rattle.std.specs.Prelude.{map}
use Rattle.std.proofs.Common.{◌≡◌, ◌+◌, length, sym, ap, subst, ◌∙◌}
use Rattle.network_file.specs.Sound.{IsNetwork}
use Rattle.region_body.specs.Placed.{ArePlaced, CanAdvance, PlacedCells}
use Rattle.region_body.specs.Rows.{rows_of}
use Rattle.cell_sweep.specs.Waiting.{waited}
use Rattle.region_body.proofs.Parting.{refs-there}
use Rattle.region_body.proofs.Pausing.{advance-awake, awake, placed-paused, placed-waited, states-awake, rows-awake, rows-waited, sums-fit, waiting}
use Rattle.region_body.proofs.placed.PlacedRows.step.Goals.{After-look-arg-1, After-wait}
use Rattle.region_body.proofs.placed.PlacedRows.step.Goals as goal

pub wait-requires-clause-sums : goal.wait-requires-clause-sums
wait-requires-clause-sums c =
    rw c.waits_through.ensures.only_gates
    (sums-fit c.args.net.now c.args.cells.now c.args.t c.args.self.now c.args.put.now (subst IsNetwork c.net.view_is c.net.invariant) c.requires.in_time c.requires.can)

-- where they wait

waits : (c : After-wait) → c.wait.new.self ≡ waiting c.args.self.now c.waits_through.new.self.gates c.wait.new.self.before
waits c =
    let more : PlacedCells → PlacedCells = λ rows.
    record rows { states = map (waited 1) rows.states; before = c.wait.new.self.before; pause = record rows.pause { owed = rows.pause.owed + 1 } } in
    c.wait.ensures.waits ∙ ap more c.waits_through.ensures.only_gates

pub returns-then-waits_through-clause-rows : goal.returns-then-waits_through-clause-rows
returns-then-waits_through-clause-rows c = λ can.
    ap (λ cells. rows_of cells.constants cells.states) (waits (goal.at.returns-then-waits_through-clause-rows c).After-wait)
    ∙ rows-waited c.args.net.now c.args.cells.now c.args.t c.args.self.now c.args.put.now (subst IsNetwork c.net.view_is c.net.invariant) c.requires.in_time
    (c.waits_through.ensures.waits c.if-waits_through.true) can

pub returns-then-waits_through-clause-placed : goal.returns-then-waits_through-clause-placed
returns-then-waits_through-clause-placed c = λ can.
    subst (ArePlaced c.args.net.now c.args.cells.now can.halo can.connectors (c.args.t + 1)) (sym (waits (goal.at.returns-then-waits_through-clause-placed c).After-wait))
    (placed-waited c.args.net.now c.args.cells.now c.args.t c.args.self.now c.args.put.now c.waits_through.new.self.gates c.wait.new.self.before
    (subst IsNetwork c.net.view_is c.net.invariant) c.requires.in_time (c.waits_through.ensures.waits c.if-waits_through.true) c.waits_through.ensures.gates
    (c.wait.ensures.long ∙ ap (λ cells. length cells.before) c.waits_through.ensures.only_gates)
    (rw c.waits_through.ensures.only_gates at c.wait.ensures.before) can)

-- where they wake

wakes : (old mid new : PlacedCells) → mid ≡ record old { gates = mid.gates } → new ≡ record mid { pause = record mid.pause { owed = 0; until = 0 } } →
    new ≡ awake old mid.gates
wakes old mid new only_gates is =
    let none : PlacedCells → PlacedCells = λ rows. record rows { pause = record rows.pause { owed = 0; until = 0 } } in
    is ∙ ap none only_gates

pub take_step-requires-clause-can : goal.take_step-requires-clause-can
take_step-requires-clause-can c =
    subst (λ cells. CanAdvance c.args.net.now c.args.cells.now c.args.t cells c.args.put.now) (sym (wakes c.args.self.now c.waits_through.new.self c.wake.new.self c.waits_through.ensures.only_gates c.wake.ensures))
    (advance-awake c.args.net.now c.args.cells.now c.args.t c.args.self.now c.waits_through.new.self.gates c.args.put.now c.waits_through.ensures.gates c.requires.can)

placed : (c : After-look-arg-1) (can : CanAdvance c.args.net.now c.args.cells.now c.args.t c.args.self.now c.args.put.now) →
    ArePlaced c.args.net.now c.args.cells.now can.halo can.connectors (c.args.t + 1) c.take_step.new.self
placed c =
    states-awake c.args.net.now c.args.cells.now c.args.t c.args.self.now c.wake.new.self c.take_step.new.self c.waits_through.new.self.gates c.args.put.now
    (wakes c.args.self.now c.waits_through.new.self c.wake.new.self c.waits_through.ensures.only_gates c.wake.ensures) c.waits_through.ensures.gates c.take_step.ensures.placed

pub look-requires-clause-there : goal.look-requires-clause-there
look-requires-clause-there c = λ k d within. ((placed c c.requires.can).links k d within).place

pub look-requires-clause-cells : goal.look-requires-clause-cells
look-requires-clause-cells c = λ k d within.
    let is = placed c c.requires.can in
    refs-there c.args.net.now c.args.cells.now c.requires.can.halo c.take_step.new.self.states c.args.put.now _ is.one_each c.requires.can.bounds.put_each
    (is.connected.each k d within)

pub returns-else-waits_through-clause-rows : goal.returns-else-waits_through-clause-rows
returns-else-waits_through-clause-rows c = λ can.
    ap (λ cells. rows_of cells.constants cells.states) c.look.ensures.only_pause
    ∙ rows-awake c.args.net.now c.args.cells.now c.args.t c.args.self.now c.wake.new.self c.take_step.new.self c.waits_through.new.self.gates c.args.put.now
    (wakes c.args.self.now c.waits_through.new.self c.wake.new.self c.waits_through.ensures.only_gates c.wake.ensures) c.waits_through.ensures.gates c.take_step.ensures.rows can

pub returns-else-waits_through-clause-placed : goal.returns-else-waits_through-clause-placed
returns-else-waits_through-clause-placed c = λ can.
    subst (ArePlaced c.args.net.now c.args.cells.now can.halo can.connectors (c.args.t + 1)) (sym c.look.ensures.only_pause)
    (placed-paused c.args.net.now c.args.cells.now can.halo can.connectors (c.args.t + 1) c.take_step.new.self c.look.new.self.pause c.look.new.self.seen
    (placed (goal.at.returns-else-waits_through-clause-placed c).After-look-arg-1 can) c.look.ensures.none_owed (c.look.ensures.one_each ∙ can.bounds.put_each) c.look.ensures.idle)
