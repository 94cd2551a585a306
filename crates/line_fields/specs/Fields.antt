-- The fields of the lines on out: what stands between the commas.
use Rattle.std.specs.Prelude.{ℕ, List, ◌++◌, codes, decimal, flat_map}
use Rattle.std.specs.List.{range_with_len}
use Rattle.fixed_flow.specs.Printed.{amount_text}
use Rattle.flow_model.specs.declared.row.Row.{Row}

-- a comma and a count
abbrev pub count_field : ℕ → List ℕ
count_field count = codes "," ++ decimal count

-- a comma and an amount
abbrev pub amount_field : ℕ → List ℕ
amount_field parts = codes "," ++ amount_text parts

-- `name,n,come,gone,wait`
unfoldable pub row_fields : (name : List ℕ) → Row → List ℕ
row_fields name row = name ++ amount_field row.n ++ amount_field row.come ++ amount_field row.gone ++ amount_field row.wait

-- one line for each of the first `cells` cells, in the order of the file
unfoldable pub lines_of : (ℕ → List ℕ) → (cells : ℕ) → List ℕ
lines_of line cells = flat_map line (range_with_len 0 cells)
