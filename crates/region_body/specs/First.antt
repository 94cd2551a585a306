-- The states of cells as they are opened.
use Rattle.std.specs.Prelude.{◌≡◌, ℕ, ◌+◌}
use Rattle.network_file.specs.Cells.{is_exit_at}
use Rattle.network_file.specs.Network.{Network}
use Rattle.flow_model.specs.Bounds.{first_at}
use Rattle.flow_model.specs.Limits.{room_at}
use Rattle.flow_model.specs.declared.row.Row.{Row}
use Rattle.connector_flow.specs.Space.{IsSpaceOf}
use Rattle.cell_sweep.specs.declared.cell_state.CellState.{CellState}
use Rattle.region_body.specs.declared.cell_constants.CellConstants.{CellConstants}

-- what never changes of cell i
pub record AreConstantsOf (net : Network) (i : ℕ) (constants : CellConstants) : Type 0 where
  pub first : constants.first ≡ first_at net.cells i
  pub exit : constants.is_exit ≡ is_exit_at net.cells i

-- the state of cell i with this row, joined to no other
pub record IsFirst (net : Network) (i : ℕ) (row : Row) (state : CellState) : Type 0 where
  pub n : state.n ≡ row.n
  pub gone : state.gone ≡ row.gone
  pub held : state.held ≡ row.wait + row.gone
  pub most : state.most ≡ 0
  pub space : IsSpaceOf state.space (room_at net.cells i)
