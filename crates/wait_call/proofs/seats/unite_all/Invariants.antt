use Rattle.std.specs.Prelude.{All}
use Rattle.std.specs.List.{Contains}
use Rattle.std.proofs.Common.{◌≡◌, ◌⊎◌, ◌≤◌, ◌+◌, length}
use Rattle.region_cut.specs.Cuttings.{region_count}
use Rattle.region_slots.specs.FieldView.{IsPassOf, PassValue}
use Rattle.parked_crew.specs.Parking.{HasSeenAll}
use Rattle.wait_call.specs.Seats.{AreFrom, HasCome}
use Rattle.wait_call.proofs.seats.unite_all.Given as goal

-- with the first that is united the pass has seen all regions at the last step
abbrev pub invariant-loop-other : goal.invariant-loop-other
invariant-loop-other l = IsPassOf l.field l.pass × (l.pass.knows.share + length l.passes.items ≡ l.initial.pass.knows.share + length l.initial.passes.items)
    × (l.pass.knows.reach ≤ l.field.terms.setup.now.net.steps) × All (HasCome l.field) l.passes.items
    × ((1 ≤ length l.passes.items) ⊎ HasSeenAll (region_count l.field.terms.setup.now.chart.cut) l.field.terms.setup.now.net.steps l.pass.knows)
    × ((pass : PassValue) → Contains l.passes.items pass → Contains l.initial.passes.items pass) × AreFrom l.initial.pass.knows.log l.initial.passes.items l.pass.knows.log

abbrev pub decreases-loop-other : goal.decreases-loop-other
decreases-loop-other l = length l.passes.items
