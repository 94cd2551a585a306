-- A saved text: how a content is written.
use Rattle.std.specs.Prelude.{ℕ, List, ◌++◌, codes, flat_map, length}
use Rattle.line_fields.specs.Fields.{count_field}
use Rattle.saved_run.specs.Content.{Content}
use Rattle.saved_run.specs.declared.row_line.RowLine.{RowLine}

-- a word and a count: `saved,1,K` and `step,s`
unfoldable pub counted_line : (word : List ℕ) → (count : ℕ) → List ℕ
counted_line word count = word ++ count_field count ++ codes "\n"

-- `row,region,n,come,gone,wait,earlier`
unfoldable pub row_line : RowLine → List ℕ
row_line line =
    codes "row" ++ count_field line.region ++ count_field line.row.n ++ count_field line.row.come ++ count_field line.row.gone
    ++ count_field line.row.wait ++ count_field line.earlier ++ codes "\n"

-- the number of regions, the step of each, the row of each cell, and behind the line `net` the network
unfoldable pub saved_text : Content → List ℕ
saved_text content =
    counted_line (codes "saved,1") (length content.steps) ++ flat_map (counted_line (codes "step")) content.steps
    ++ flat_map row_line content.rows ++ codes "net\n" ++ content.network
