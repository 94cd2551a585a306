-- When a list is no cutting of a network.
use Rattle.std.specs.Prelude.{ℕ, ◌==◌, nat_lt, List, length, Result, Ok}
use Rattle.std.specs.List.{list_all}
use Rattle.record_fields.specs.Checks.{◌>>◌, must}
use Rattle.network_file.specs.Cutting.{has_no_gap}
use Rattle.network_file.specs.Network.{Network}
use Rattle.network_file.specs.Limits.{most_regions}
use Rattle.region_cut.specs.declared.fault.CutFault.{CutFault}
use Rattle.region_cut.specs.declared.fault.CutFault.TheVariants.{Length, Gap, Many}

-- the list as a cutting of the network's cells, or its first fault
unfoldable pub cut_of : Network → List ℕ → Result (List ℕ) CutFault
cut_of net list = do
  must (length list == length net.cells) Length
  must (list_all (λ region. nat_lt region most_regions) list) Many
  must (has_no_gap list) Gap
  Ok list

-- the number of a fault
abbrev pub fault_number : CutFault → ℕ
fault_number Length = 1
fault_number Gap = 2
fault_number Many = 3
