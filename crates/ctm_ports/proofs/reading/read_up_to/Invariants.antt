use Rattle.std.proofs.Common.{vec_len, ◌+◌, ◌-◌, ◌≤◌}
use Rattle.std.specs.Io.KnownBytes.{Consumes}
use Rattle.ctm_ports.proofs.reading.read_up_to.Given as goal

-- the bytes read so far are those that the source lost, and its faults did not fall
abbrev pub invariant-loop-room : goal.invariant-loop-room
invariant-loop-room g l = record {
  bounded : vec_len l.bytes ≤ l.limit + 1;
  lost : Consumes (g.S.Source.left l.initial.source) (g.S.Source.left l.source) l.bytes.items;
  never_falls : g.S.Source.faults l.initial.source ≤ g.S.Source.faults l.source;
}

abbrev pub decreases-loop-room : goal.decreases-loop-room
decreases-loop-room g l = (l.limit + 1) - vec_len l.bytes
