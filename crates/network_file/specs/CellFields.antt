-- What the fields of a record say that name a cell, by the cells and connectors so far.
use Rattle.std.specs.Prelude.{ℕ, List, not, ◌||◌, eqb, false, Option, Result, Ok, ok_or, is_none}
use Rattle.std.specs.List.{list_any}
use Rattle.std.specs.Option.{option_map_or}
use Rattle.record_fields.specs.CellName.{is_name}
use Rattle.record_fields.specs.Checks.{◌>>=◌, ◌>>◌, must}
use Rattle.record_fields.specs.declared.code.Code.{Code}
use Rattle.record_fields.specs.declared.code.Code.TheVariants.{BadName, Repeated, Unknown, WrongKind, InTaken, OutTaken}
use Rattle.network_file.specs.Cells.{cell_named, is_exit_at, is_gate_at}
use Rattle.network_file.specs.Connectors.{leads_into, leads_out_of}
use Rattle.network_file.specs.declared.cell.Cell.{Cell}
use Rattle.network_file.specs.declared.connector.Connector.{Connector}

-- a name that no cell has yet
unfoldable pub new_name : List Cell → List ℕ → Result (List ℕ) Code
new_name cells text = do
  must (is_name text) BadName
  must (is_none (cell_named cells text)) Repeated
  Ok text

-- the cell of a name
unfoldable pub known_cell : List Cell → List ℕ → Result ℕ Code
known_cell cells text = ok_or (cell_named cells text) Unknown

-- the cell upstream: no exit, and neither an earlier connector nor an earlier field of the record leads out of it
unfoldable pub upstream : List Cell → List Connector → (earlier : Option ℕ) → List ℕ → Result ℕ Code
upstream cells connectors earlier text = do
  cell ← known_cell cells text
  must (not (is_exit_at cells cell)) WrongKind
  must (not (list_any (leads_out_of cell) connectors || option_map_or (eqb cell) earlier false)) OutTaken
  Ok cell

-- the cell downstream: no gate, and neither an earlier connector nor an earlier field of the record leads into it
unfoldable pub downstream : List Cell → List Connector → (earlier : Option ℕ) → List ℕ → Result ℕ Code
downstream cells connectors earlier text = do
  cell ← known_cell cells text
  must (not (is_gate_at cells cell)) WrongKind
  must (not (list_any (leads_into cell) connectors || option_map_or (eqb cell) earlier false)) InTaken
  Ok cell
