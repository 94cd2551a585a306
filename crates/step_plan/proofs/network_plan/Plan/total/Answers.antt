use Rattle.std.specs.Prelude.{sum_by}
use Rattle.std.proofs.Common.{◌≡◌, arith, sym, ◌∙◌, ap}
use Rattle.std.proofs.lemmas.List.{take_all}
use Rattle.std.proofs.lemmas.List.Sums.{sum_by_more_le}
use Rattle.step_plan.proofs.Totals.{brought_to, total_demand_is}
use Rattle.step_plan.proofs.Laws.{total_demand-le}
use Rattle.step_plan.proofs.network_plan.Plan.total.Goals as goal

pub demand_from-total-requires : goal.demand_from-total-requires
demand_from-total-requires c =
    let cells = c.deref-cell-items.result.now in
    let more = sum_by_more_le (brought_to c.args.steps) cells c.loop-cell.cell-index c.cell-item.result c.loop-cell-test.true in
    record {
      fits = omega (
        arith,
        c.loop-cell.invariant,
        rw (← c.cell-item.is) at more,
        ap (sum_by (brought_to c.args.steps)) c.deref-cell-items.ensures.value,
        total_demand_is (record { cells = c.self.inside.cells.items }) c.args.steps,
        total_demand-le (record { cells = c.self.inside.cells.items }) c.args.steps c.self.invariant.sound,
      );
    }

pub overflow_add-total : goal.overflow_add-total
overflow_add-total c =
    let cells = c.deref-cell-items.result.now in
    let more = sum_by_more_le (brought_to c.args.steps) cells c.loop-cell.cell-index c.cell-item.result c.loop-cell-test.true in
    omega (
      arith,
      c.loop-cell.invariant,
      c.demand_from-total.ensures,
      rw (← c.cell-item.is) at more,
      ap (sum_by (brought_to c.args.steps)) c.deref-cell-items.ensures.value,
      total_demand_is (record { cells = c.self.inside.cells.items }) c.args.steps,
      total_demand-le (record { cells = c.self.inside.cells.items }) c.args.steps c.self.invariant.sound,
    )

-- the sum so far is that of all cells
all_summed : (c : goal.After-loop-cell) → c.loop-cell.total ≡ sum_by (brought_to c.args.steps) c.self.inside.cells.items
all_summed c =
    let whole = take_all c.loop-cell.cell-index c.deref-cell-items.result.now c.loop-cell-test.false in
    rw (whole, c.deref-cell-items.ensures.value) at c.loop-cell.invariant

pub returns-clause-total : goal.returns-clause-total
returns-clause-total c = rw (← c.self.view_is) (all_summed c ∙ sym (total_demand_is (record { cells = c.self.inside.cells.items }) c.args.steps))

pub returns-clause-bound : goal.returns-clause-bound
returns-clause-bound c =
    omega (arith, all_summed c, total_demand_is (record { cells = c.self.inside.cells.items }) c.args.steps, total_demand-le (record { cells = c.self.inside.cells.items }) c.args.steps c.self.invariant.sound)
