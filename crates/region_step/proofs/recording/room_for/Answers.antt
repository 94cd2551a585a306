use Rattle.std.specs.List.{range_with_len}
use Rattle.std.proofs.Common.{◌+◌, ◌-◌, arith}
use Rattle.region_step.proofs.Room.{recorded-never, room-enough}
use Rattle.region_step.proofs.recording.room_for.Goals as goal

pub returns-then-every-eq0 : goal.returns-then-every-eq0
returns-then-every-eq0 c =
    let none = recorded-never c.args.steps (range_with_len (c.args.from + 1) (c.args.steps - c.args.from)) in
    rw c.if-every-eq0.true (rw none (omega arith))

pub returns : goal.returns
returns c =
    rw c.saturating_sub-blocks.ensures (room-enough c.args.cells c.args.steps c.args.every c.args.from (omega (arith, c.if-every-eq0.false)) c.requires.in_time)
