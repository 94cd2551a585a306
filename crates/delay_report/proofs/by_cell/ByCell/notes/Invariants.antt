use Rattle.std.proofs.Common.{◌≡◌, map}
use Rattle.std.specs.List.{range_with_len}
use Rattle.delay_report.specs.FromStart.{grid_note}
use Rattle.delay_report.specs.Notes.{recorded_step}
use Rattle.delay_report.proofs.by_cell.ByCell.notes.Given as goal

-- the notes of the cells before i
abbrev pub invariant-loop-i : goal.invariant-loop-i
invariant-loop-i l =
    l.notes.items ≡ map (grid_note l.self.setup.net l.self.setup.chart.cut l.self.setup.start (recorded_step l.self.setup.net.steps l.self.setup.every l.k)) (range_with_len 0 l.i)
