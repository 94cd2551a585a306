-- The row of a cell and its change in a step.
use Rattle.std.specs.Prelude.{ℕ, ◌+◌, ◌-◌, if◌then◌else◌}
use Rattle.network_file.specs.Cells.{is_exit_at}
use Rattle.network_file.specs.Network.{Network}
use Rattle.flow_model.specs.Flows.{inflow, outflow}
use Rattle.flow_model.specs.declared.row.Row.{Row}

-- the row in which all is 0
abbrev pub empty_row : Row
empty_row = record { n = 0; come = 0; gone = 0; wait = 0 }

-- a row after so much entered and so much left; what stays in an exit doesn't wait
abbrev pub moved_row : Network → (i : ℕ) → Row → (enters leaves : ℕ) → Row
moved_row net i row enters leaves = record {
  n = row.n + enters - leaves;
  come = row.come + enters;
  gone = row.gone + leaves;
  wait = if is_exit_at net.cells i then row.wait else row.wait + (row.n - leaves);
}

-- the row of cell i after step t, by its row before and what each cell held before
unfoldable pub next_row : Network → (t : ℕ) → (n : ℕ → ℕ) → (i : ℕ) → Row → Row
next_row net t n i row = moved_row net i row (inflow net t n i) (outflow net t n i)
