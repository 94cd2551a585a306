use Rattle.step_plan.proofs.Sound.{IsCounted-with_cell}
use Rattle.step_plan.proofs.network_plan.Plan.put_cell.Goals as goal

pub invariant_of-self-2 : goal.invariant_of-self-2
invariant_of-self-2 c =
    let few = rw (← c.self.view_is) at c.requires.few_cells in
    rw (c.in_ok-push.ensures.items, c.new.ensures) (IsCounted-with_cell _ c.args.capacity _ few c.self.invariant)
