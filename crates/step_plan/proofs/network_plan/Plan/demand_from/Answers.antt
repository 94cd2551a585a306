use Rattle.std.proofs.Common.{arith, ◌∙◌}
use Rattle.step_plan.proofs.Laws.{demand_from-le}
use Rattle.step_plan.proofs.CellReads.{demand_from_read}
use Rattle.step_plan.proofs.network_plan.Plan.demand_from.Goals as goal

pub demand_from-requires : goal.demand_from-requires
demand_from-requires c =
    let has = rw (← c.self.view_is) at c.requires.has_cell in
    record {
      fits = omega (
        arith,
        demand_from_read _ c.args.cell c.args.t c.args.end _ has c.index.ensures,
        demand_from-le _ c.args.cell c.args.t c.args.end c.self.invariant.sound,
      );
    }

pub returns-clause-demand : goal.returns-clause-demand
returns-clause-demand c =
    let has = rw (← c.self.view_is) at c.requires.has_cell in
    rw (← c.self.view_is) (c.demand_from.ensures ∙ demand_from_read _ c.args.cell c.args.t c.args.end _ has c.index.ensures)

pub returns-clause-bound : goal.returns-clause-bound
returns-clause-bound c =
    let sound = rw c.self.view_is at c.self.invariant.sound in
    omega (arith, returns-clause-demand c, demand_from-le c.args.self.now c.args.cell c.args.t c.args.end sound)
