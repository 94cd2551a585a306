use Rattle.std.proofs.Common.{length, take, ◌-◌, ◌≤◌}
use Rattle.std.specs.Io.KnownBytes.{Appends}
use Rattle.ctm_ports.proofs.writing.write_all.Given as goal

-- the sink took the text before `at`, and no count fell
abbrev pub invariant-loop-at : goal.invariant-loop-at
invariant-loop-at g l = record {
  in_text : l.at ≤ length l.text;
  took : Appends (g.O.Sink.taken l.initial.out) (g.O.Sink.taken l.out) (take l.at l.text);
  faults_never_fall : g.O.Sink.faults l.initial.out ≤ g.O.Sink.faults l.out;
  wants_never_fall : g.O.Sink.wants l.initial.out ≤ g.O.Sink.wants l.out;
}

abbrev pub decreases-loop-at : goal.decreases-loop-at
decreases-loop-at g l = length l.text - l.at
