-- The rows of some cells, and what they held a step before.
use Rattle.std.specs.Prelude.{ℕ, List}
use Rattle.flow_model.specs.declared.row.Row.{Row}

pub record RowsAndBefore : Type 0 where
  pub rows : List Row
  pub before : List ℕ
