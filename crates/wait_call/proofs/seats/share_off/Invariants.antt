use Rattle.std.specs.Prelude.{All, vec_capacity}
use Rattle.std.proofs.Common.{◌≡◌, ◌≤◌, ◌+◌, ◌-◌, [], length}
use Rattle.region_slots.specs.FieldView.{IsPassOf, PassValue}
use Rattle.wait_call.specs.Seats.{IsSeat}
use Rattle.wait_call.proofs.seats.share_off.Given as goal

-- the seats that are shared off and those that are left are all
abbrev pub invariant-loop-passes : goal.invariant-loop-passes
invariant-loop-passes l = IsPassOf l.field l.pass × (l.pass.knows.share + length l.passes.items ≡ l.many + 1) × (l.pass.knows.reach ≡ l.initial.pass.knows.reach)
    × (length l.passes.items ≤ l.many) × (l.many ≤ vec_capacity l.passes) × All (IsSeat l.field) l.passes.items
    × (l.pass.knows.log ≡ l.initial.pass.knows.log) × All (λ (pass : PassValue). pass.knows.log ≡ []) l.passes.items

abbrev pub decreases-loop-passes : goal.decreases-loop-passes
decreases-loop-passes l = l.many - length l.passes.items
