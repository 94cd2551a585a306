use Rattle.std.specs.Prelude.{reverse}
use Rattle.std.specs.List.{find}
use Rattle.std.specs.Option.{option_map}
use Rattle.std.proofs.Common.{ap, ◌∙◌}
use Rattle.std.proofs.lemmas.Result.{IfOk-weaker}
use Rattle.step_plan.specs.Speeds.{speed_at}
use Rattle.step_plan.specs.Records.{SpeedRecord, in_range}
use Rattle.step_plan.proofs.Changes.{in_force-filled, IsRising-filled}
use Rattle.step_plan.proofs.Given.{given_by-last}
use Rattle.step_plan.proofs.cell_plan.CellPlan.speed_changes.Goals as goal

pub returns-clause-in_force : goal.returns-clause-in_force
unfolding speed_at
returns-clause-in_force c =
    IfOk-weaker c.with_fallback.result _ _ (λ changes is t.
    in_force-filled (1, 1) c.deref.result.now changes.items (λ speed. (speed.num, speed.den)) (find (λ speed. in_range speed.from speed.to t) (reverse c.args.self.now.records.speeds)) t is
    (rw c.deref.ensures.value (c.in_ok-changes.ensures.in_force t ∙
    given_by-last (λ (speed : SpeedRecord). (speed.num, speed.den)) (λ speed step. in_range speed.from speed.to step) c.speeds.result.now t ∙
    ap (λ speeds. option_map (λ speed. (speed.num, speed.den)) (find (λ speed. in_range speed.from speed.to t) (reverse speeds))) c.speeds.ensures)))
    c.with_fallback.ensures

pub returns-clause-rising : goal.returns-clause-rising
returns-clause-rising c =
    IfOk-weaker c.with_fallback.result _ _ (λ changes is.
    IsRising-filled (1, 1) c.deref.result.now changes.items is (rw c.deref.ensures.value c.in_ok-changes.ensures.rising))
    c.with_fallback.ensures
