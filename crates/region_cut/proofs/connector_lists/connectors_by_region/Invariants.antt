use Rattle.std.proofs.Common.{◌≡◌, ℕ, ◌<◌, length}
use Rattle.std.specs.List.{filter, range_with_len}
use Rattle.network_file.specs.Numbered.{connector_at}
use Rattle.region_cut.specs.Chart.{list_at}
use Rattle.region_cut.specs.Neighbours.{touches_region}
use Rattle.region_cut.proofs.connector_lists.connectors_by_region.Given as goal

abbrev pub invariant-loop-k : goal.invariant-loop-k
invariant-loop-k l = record {
  count : length l.lists ≡ l.regions;
  lists : (r : ℕ) → r < l.regions → list_at l.lists r ≡ filter (λ k. touches_region l.cut r (connector_at l.net.connectors k)) (range_with_len 0 l.k);
}
