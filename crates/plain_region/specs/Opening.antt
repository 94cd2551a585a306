-- What a region is opened with.
use Rattle.std.specs.Prelude.{ℕ}
use Rattle.flow_model.specs.declared.row.Row.{Row}

-- a row of which only what its cell held is known
abbrev pub earlier_row : ℕ → Row
earlier_row n = record { n = n; come = 0; gone = 0; wait = 0 }
