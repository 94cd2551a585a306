use Rattle.std.proofs.Common.{◌≡◌, map}
use Rattle.std.specs.List.{range_with_len}
use Rattle.region_step.specs.Grid.{grid_row}
use Rattle.delay_report.proofs.by_cell.ByCell.rows.Given as goal

-- the rows of the cells before i
abbrev pub invariant-loop-i : goal.invariant-loop-i
invariant-loop-i l = l.rows.items ≡ map (grid_row l.self.setup.net l.self.setup.chart.cut l.self.setup.start l.self.setup.net.steps) (range_with_len 0 l.i)
