use Rattle.region_body.proofs.SpeedTimelines.{AreWritten}
use Rattle.region_body.proofs.followed_speed.follow_all_speeds.Given as goal

abbrev pub invariant-loop-m : goal.invariant-loop-m
invariant-loop-m l = AreWritten l.initial.timelines l.timelines l.initial.speeds l.speeds l.t l.until l.m
