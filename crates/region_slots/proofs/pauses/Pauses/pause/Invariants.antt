use Rattle.std.proofs.Common.{◌≡◌, ◌-◌, ◌≤◌}
use Rattle.region_slots.proofs.pauses.Pauses.pause.Given as goal

abbrev pub invariant-loop-made : goal.invariant-loop-made
invariant-loop-made l = (l.made ≤ l.times) × (l.self ≡ l.initial.self)

abbrev pub decreases-loop-made : goal.decreases-loop-made
decreases-loop-made l = l.times - l.made
