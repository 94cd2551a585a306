use Rattle.std.proofs.Common.{length}
use Rattle.step_plan.proofs.record_changes.+record_changes.Given as goal

abbrev pub decreases-record_changes : goal.decreases-record_changes
decreases-record_changes g l = length l.records.now
