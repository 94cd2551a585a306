use Rattle.std.proofs.Common.{◌∙◌}
use Rattle.step_plan.proofs.CellReads.{shares_read}
use Rattle.step_plan.proofs.network_plan.Plan.shares.Goals as goal

pub returns : goal.returns
returns c =
    let has = rw (← c.self.view_is) at c.requires.has_cell in
    rw (← c.self.view_is) (c.shares_at.ensures ∙ shares_read _ c.args.cell c.args.t c.args.own _ has c.index.ensures)
