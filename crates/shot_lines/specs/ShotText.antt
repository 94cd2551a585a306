-- The text of a shot (docs/FORMAT.md, "The shots").
use Rattle.std.specs.Prelude.{ℕ, ◌++◌, List, codes, flat_map, length, slice_index}
use Rattle.network_file.specs.Cells.{name_at}
use Rattle.network_file.specs.Network.{Network}
use Rattle.flow_model.specs.State.{row_at}
use Rattle.flow_model.specs.declared.row.Row.{Row}
use Rattle.flow_ledger.specs.Balances.{books_of}
use Rattle.flow_ledger.specs.Flight.{flight_of}
use Rattle.flow_ledger.specs.declared.network_books.Books.{Books}
use Rattle.line_fields.specs.Fields.{count_field, lines_of, row_fields}
use Rattle.line_fields.specs.SignedFields.{signed_field}
use Rattle.snapshot.specs.Shots.{crossing}

-- `shot,number,inside,flight,initial,entered,left`
unfoldable pub books_line : (number : ℕ) → Books → List ℕ
books_line number books =
    codes "shot" ++ count_field number ++ signed_field books.inside ++ signed_field books.flight ++ signed_field books.initial
    ++ signed_field books.entered ++ signed_field books.left ++ codes "\n"

-- `region,r,step`
unfoldable pub region_line : (r step : ℕ) → List ℕ
region_line r step = codes "region" ++ count_field r ++ count_field step ++ codes "\n"

-- `flight,k,amount`
unfoldable pub flight_line : Network → List Row → (k : ℕ) → List ℕ
flight_line net rows k = codes "flight" ++ count_field k ++ signed_field (flight_of net rows k) ++ codes "\n"

-- `row,name,n,come,gone,wait`
unfoldable pub cell_row_line : (name : List ℕ) → Row → List ℕ
cell_row_line name row = codes "row," ++ row_fields name row ++ codes "\n"

-- shot `number` of a network cut so, by the steps of its regions and the rows of its cells: its books, a line for each region,
-- one for each connector that touches cells of more than one region, and one for each cell
unfoldable pub shot_lines : Network → (cut : List ℕ) → (number : ℕ) → (steps : List ℕ) → List Row → List ℕ
shot_lines net cut number steps rows =
    books_line number (books_of net rows) ++ lines_of (λ r. region_line r (slice_index steps r)) (length steps)
    ++ flat_map (flight_line net rows) (crossing net cut)
    ++ lines_of (λ i. cell_row_line (name_at net.cells i) (row_at rows i)) (length net.cells)
