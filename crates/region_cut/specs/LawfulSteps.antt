-- Lawful steps: neighbours stand at most one step apart.
use Rattle.std.specs.Prelude.{◌≡◌, ℕ, ◌+◌, ◌≤◌, List, length, All, slice_index, true}
use Rattle.network_file.specs.Network.{Network}
use Rattle.region_cut.specs.Cuttings.{region_count}
use Rattle.region_cut.specs.Neighbours.{are_neighbours}

-- one step number for each region, at most T, where neighbours differ by at most 1
pub record AreLawful (net : Network) (cut : List ℕ) (steps : List ℕ) : Type 0 where
  pub one_each : length steps ≡ region_count cut
  pub in_time : All (λ step. step ≤ net.steps) steps
  pub close : (r q : ℕ) → are_neighbours net.connectors cut r q ≡ true → slice_index steps r ≤ slice_index steps q + 1
