use Rattle.std.proofs.Common.{◌∙◌}
use Rattle.step_plan.proofs.CellReads.{speed_read}
use Rattle.step_plan.proofs.network_plan.Plan.speed.Goals as goal

pub returns : goal.returns
returns c =
    let has = rw (← c.self.view_is) at c.requires.has_cell in
    rw (← c.self.view_is) (c.speed_at.ensures ∙ speed_read _ c.args.cell c.args.t _ has c.index.ensures)
