use Rattle.std.proofs.Common.{◌∙◌}
use Rattle.step_plan.proofs.CellReads.{signal_read}
use Rattle.step_plan.proofs.network_plan.Plan.signal.Goals as goal

pub returns : goal.returns
returns c =
    let has = rw (← c.self.view_is) at c.requires.has_cell in
    rw (← c.self.view_is) (c.signal.ensures ∙ signal_read _ c.args.cell _ has c.index.ensures)
