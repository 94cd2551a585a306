use Rattle.std.proofs.Common.{◌∙◌}
use Rattle.step_plan.proofs.CellReads.{has_speeds_read}
use Rattle.step_plan.proofs.network_plan.Plan.has_speeds.Goals as goal

pub returns : goal.returns
returns c =
    let has = rw (← c.self.view_is) at c.requires.has_cell in
    rw (← c.self.view_is) (c.has_speeds.ensures ∙ has_speeds_read _ c.args.cell _ has c.index.ensures)
