-- When a region may rise by a step.
use Rattle.std.specs.Prelude.{◌≡◌, ℕ, ◌<◌, ◌≤◌, List, slice_index, true}
use Rattle.network_file.specs.Network.{Network}
use Rattle.region_cut.specs.Neighbours.{are_neighbours}

-- region r stands below the last step, and no neighbour stands lower
pub record CanRise (net : Network) (cut : List ℕ) (steps : List ℕ) (r : ℕ) : Type 0 where
  pub below : slice_index steps r < net.steps
  pub lowest : (q : ℕ) → are_neighbours net.connectors cut r q ≡ true → slice_index steps r ≤ slice_index steps q
