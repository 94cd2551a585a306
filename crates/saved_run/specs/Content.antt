-- What a saved text says.
use Rattle.std.specs.Prelude.{ℕ, ◌^◌, ◌<◌, ◌≤◌, All, List, length}
use Rattle.flow_model.specs.declared.row.Row.{Row}
use Rattle.network_file.specs.Limits.{most_bytes, most_regions}
use Rattle.saved_run.specs.declared.row_line.RowLine.{RowLine}

-- a step for each region, a row line for each cell in the order of the file, and the bytes of the network file
pub record Content : Type 0 where
  pub steps : List ℕ
  pub rows : List RowLine
  pub network : List ℕ

-- the numbers of a row, each below 2^64
pub record HasNumbers (row : Row) : Type 0 where
  pub n : row.n < 2 ^ 64
  pub come : row.come < 2 ^ 64
  pub gone : row.gone < 2 ^ 64
  pub wait : row.wait < 2 ^ 64

-- the numbers of a row line, each below 2^64
pub record IsRowLine (line : RowLine) : Type 0 where
  pub region : line.region < 2 ^ 64
  pub row : HasNumbers line.row
  pub earlier : line.earlier < 2 ^ 64

-- what a saved text may say
pub record IsContent (content : Content) : Type 0 where
  pub some : 1 ≤ length content.steps
  pub few : length content.steps ≤ most_regions
  pub steps : All (λ step. step < 2 ^ 64) content.steps
  pub rows : All IsRowLine content.rows
  pub network : length content.network ≤ most_bytes
