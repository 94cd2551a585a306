-- Where the regions of a network start: each at a step of its own.
use Rattle.std.specs.Prelude.{ℕ, List, length, replicate}
use Rattle.network_file.specs.Network.{Network}
use Rattle.flow_model.specs.State.{state_at}
use Rattle.flow_model.specs.declared.row.Row.{Row}
use Rattle.region_cut.specs.Cuttings.{region_count}

pub record StartLists : Type 0 where
  -- the step of each region
  pub steps : List ℕ
  -- the row of each cell at its region's step
  pub rows : List Row
  -- what each cell held a step before; only that of border cells is used
  pub earlier : List ℕ

-- all regions at step 0, with the first occupancies
abbrev pub zero_start : Network → (cut : List ℕ) → StartLists
zero_start net cut = record {
  steps = replicate (region_count cut) 0;
  rows = state_at net 0;
  earlier = replicate (length net.cells) 0;
}
