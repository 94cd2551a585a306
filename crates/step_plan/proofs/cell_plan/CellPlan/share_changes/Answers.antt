use Rattle.std.specs.Prelude.{reverse}
use Rattle.std.specs.List.{find}
use Rattle.std.specs.Option.{option_map}
use Rattle.std.proofs.Common.{ap, ◌∙◌}
use Rattle.std.proofs.lemmas.Result.{IfOk-weaker}
use Rattle.step_plan.specs.Turning.{shares_at}
use Rattle.step_plan.specs.Records.{TurnRecord, in_range}
use Rattle.step_plan.proofs.Changes.{in_force-filled, IsRising-filled}
use Rattle.step_plan.proofs.Given.{given_by-last}
use Rattle.step_plan.proofs.cell_plan.CellPlan.share_changes.Goals as goal

pub returns-clause-in_force : goal.returns-clause-in_force
unfolding shares_at
returns-clause-in_force c =
    IfOk-weaker c.with_fallback.result _ _ (λ changes is t.
    in_force-filled c.args.own c.deref.result.now changes.items (λ turn. (turn.b1, turn.b2)) (find (λ turn. in_range turn.from turn.to t) (reverse c.args.self.now.records.turns)) t is
    (rw c.deref.ensures.value (c.in_ok-changes.ensures.in_force t ∙
    given_by-last (λ (turn : TurnRecord). (turn.b1, turn.b2)) (λ turn step. in_range turn.from turn.to step) c.turns.result.now t ∙
    ap (λ turns. option_map (λ turn. (turn.b1, turn.b2)) (find (λ turn. in_range turn.from turn.to t) (reverse turns))) c.turns.ensures)))
    c.with_fallback.ensures

pub returns-clause-rising : goal.returns-clause-rising
returns-clause-rising c =
    IfOk-weaker c.with_fallback.result _ _ (λ changes is.
    IsRising-filled c.args.own c.deref.result.now changes.items is (rw c.deref.ensures.value c.in_ok-changes.ensures.rising))
    c.with_fallback.ensures
