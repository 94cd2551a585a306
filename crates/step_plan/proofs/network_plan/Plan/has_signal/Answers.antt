use Rattle.std.specs.Prelude.{is_some}
use Rattle.std.proofs.Common.{ap, ◌∙◌}
use Rattle.step_plan.proofs.CellReads.{signal_read}
use Rattle.step_plan.proofs.network_plan.Plan.has_signal.Goals as goal

pub returns : goal.returns
returns c =
    let has = rw (← c.self.view_is) at c.requires.has_cell in
    rw (← c.self.view_is) (c.has_signal.ensures ∙ ap is_some (signal_read _ c.args.cell _ has c.index.ensures))
