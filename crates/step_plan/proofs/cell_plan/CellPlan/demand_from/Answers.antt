use Rattle.std.specs.Prelude.{sum_by}
use Rattle.std.proofs.Common.{arith, sym, ap, ◌∙◌}
use Rattle.std.proofs.lemmas.List.{take_all}
use Rattle.std.proofs.lemmas.List.Sums.{sum_by_more_le}
use Rattle.step_plan.proofs.Totals.{brought, demand_from_sum}
use Rattle.step_plan.proofs.cell_plan.CellPlan.demand_from.Goals as goal

pub overflow_add-amount : goal.overflow_add-amount
overflow_add-amount c =
    let each = brought c.args.t c.args.end in
    let demands = c.demands-demand-items.result.now in
    let own = c.demands-demand-items.ensures in
    let more = sum_by_more_le each demands c.loop-demand.demand-index c.demand-item.result c.loop-demand-test.true in
    omega (
      arith,
      c.loop-demand.invariant,
      rw (← c.demand-item.is) at more,
      ap (sum_by each) own,
      demand_from_sum c.args.self.now c.args.t c.args.end,
      c.requires.fits,
    )

pub returns : goal.returns
returns c =
    let each = brought c.args.t c.args.end in
    let whole = take_all c.loop-demand.demand-index c.demands-demand-items.result.now c.loop-demand-test.false in
    let own = c.demands-demand-items.ensures in
    rw whole at c.loop-demand.invariant ∙
    ap (sum_by each) own ∙
    sym (demand_from_sum c.args.self.now c.args.t c.args.end)
