-- How many connectors a list of regions cuts.
use Rattle.std.specs.Prelude.{ℕ, List, count_by}
use Rattle.network_file.specs.Network.{Network}
use Rattle.region_cut.specs.Joins.{crosses}

-- how many connectors touch more than one region, where `list` has the region of each cell
unfoldable pub cuts : (list : List ℕ) → Network → ℕ
cuts list net = count_by (crosses list) net.connectors
