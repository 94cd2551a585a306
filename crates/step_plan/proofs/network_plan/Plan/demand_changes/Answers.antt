use Rattle.std.proofs.Common.{◌≡◌, ℕ, arith, ◌∙◌}
use Rattle.std.proofs.lemmas.Result.{IfOk-weaker}
use Rattle.step_plan.specs.Changes.{in_force}
use Rattle.step_plan.specs.Alone.{alone}
use Rattle.step_plan.specs.Demand.{demand_at}
use Rattle.step_plan.proofs.Laws.{demand_at-le}
use Rattle.step_plan.proofs.CellReads.{demand_read}
use Rattle.step_plan.proofs.network_plan.Plan.demand_changes.Goals as goal

pub demand_changes-requires : goal.demand_changes-requires
demand_changes-requires c =
    let has = rw (← c.self.view_is) at c.requires.has_cell in
    record {
      fits = λ t. omega (
        arith,
        demand_read _ c.args.cell t _ has c.index.ensures,
        demand_at-le _ c.args.cell t c.self.invariant.sound,
      );
    }

pub returns-clause-in_force : goal.returns-clause-in_force
returns-clause-in_force c =
    let has = rw (← c.self.view_is) at c.requires.has_cell in
    IfOk-weaker c.demand_changes.result (λ changes. (t : ℕ) → in_force 0 changes.items t ≡ demand_at (alone c.index.result.now) 0 t) _ (λ changes same t. rw (← c.self.view_is) (
    same t ∙ demand_read _ c.args.cell t _ has c.index.ensures
    )) c.demand_changes.ensures.in_force
