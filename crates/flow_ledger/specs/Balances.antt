-- The books of a network, which balance.
use Rattle.std.specs.Prelude.{ℕ, List, ℤ, pos, ◌+ℤ◌, sum_by}
use Rattle.std.specs.List.{fold}
use Rattle.network_file.specs.Network.{Network}
use Rattle.flow_model.specs.declared.row.Row.{Row}
use Rattle.flow_ledger.specs.Flight.{flight_by}
use Rattle.flow_ledger.specs.declared.network_books.Books.{Books}
use Rattle.flow_ledger.specs.Books.{inside_of, entered_of, left_of}

-- the flights of all connectors together
unfoldable pub flights_of : Network → List Row → ℤ
flights_of net rows = fold (λ sum connector. sum +ℤ flight_by rows connector) (pos 0) net.connectors

-- what all cells held at step 0
unfoldable pub initial_of : Network → ℕ
initial_of net = sum_by (λ cell. cell.first) net.cells

unfoldable pub books_of : Network → List Row → Books
books_of net rows = record {
  inside = pos (inside_of net rows);
  flight = flights_of net rows;
  initial = pos (initial_of net);
  entered = pos (entered_of net rows);
  left = pos (left_of net rows);
}
