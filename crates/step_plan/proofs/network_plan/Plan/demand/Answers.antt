use Rattle.std.proofs.Common.{arith, ◌∙◌}
use Rattle.step_plan.proofs.Laws.{demand_at-le}
use Rattle.step_plan.proofs.CellReads.{demand_read}
use Rattle.step_plan.proofs.network_plan.Plan.demand.Goals as goal

pub demand_at-requires : goal.demand_at-requires
demand_at-requires c =
    let has = rw (← c.self.view_is) at c.requires.has_cell in
    record {
      fits = omega (
        arith,
        demand_read _ c.args.cell c.args.t _ has c.index.ensures,
        demand_at-le _ c.args.cell c.args.t c.self.invariant.sound,
      );
    }

pub returns-clause-demand : goal.returns-clause-demand
returns-clause-demand c =
    let has = rw (← c.self.view_is) at c.requires.has_cell in
    rw (← c.self.view_is) (c.demand_at.ensures ∙ demand_read _ c.args.cell c.args.t _ has c.index.ensures)

pub returns-clause-bound : goal.returns-clause-bound
returns-clause-bound c =
    let sound = rw c.self.view_is at c.self.invariant.sound in
    omega (arith, returns-clause-demand c, demand_at-le c.args.self.now c.args.cell c.args.t sound)
