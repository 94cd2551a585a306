-- Grown cuttings: of the cuttings in even runs of the file order or of the walk, those that cut the fewest connectors.
use Rattle.std.specs.Prelude.{◌≡◌, ℕ, ◌+◌, ◌-◌, ◌/◌, ◌≤◌, ◌⊎◌, List, [], ◌∷◌, ◌++◌, length, map, replicate, All}
use Rattle.network_file.specs.Cutting.{IsCutting}
use Rattle.network_file.specs.Network.{Network}
use Rattle.region_cut.specs.Cuttings.{region_at}
use Rattle.cut_grow.specs.CutConnectors.{cuts}
use Rattle.cut_grow.specs.Walk.{file_order, walk_to}

-- the numbers of runs of these sizes, from r on, each as often as its size says
abbrev pub runs_from : (r : ℕ) → (sizes : List ℕ) → List ℕ
runs_from r [] = []
runs_from r (size ∷ sizes) = replicate size r ++ runs_from (r + 1) sizes

-- a cutting whose k regions are consecutive runs of the order, numbered as they come, of even sizes: the floor or the ceiling
-- of the number of cells by k
pub record IsInRuns (net : Network) (k : ℕ) (order list : List ℕ) : Type 0 where
  pub cutting : IsCutting (length net.cells) list
  pub sizes : List ℕ
  pub one_each : length sizes ≡ k
  pub even : All (λ size. (size ≡ length net.cells / k) ⊎ (size ≡ (length net.cells + k - 1) / k)) sizes
  pub runs : map (region_at list) order ≡ runs_from 0 sizes

-- a candidate in k regions: a cutting in k even runs of the file order or of the walk
abbrev pub IsCandidate : Network → (k : ℕ) → (list : List ℕ) → Type 0
IsCandidate net k list = IsInRuns net k (file_order net) list ⊎ IsInRuns net k (walk_to net (length net.cells)) list

-- a candidate that cuts no more connectors than any other; of several that cut as few it is one in the file order, if there is one
pub record IsGrown (net : Network) (k : ℕ) (list : List ℕ) : Type 0 where
  pub candidate : IsCandidate net k list
  pub fewest : (other : List ℕ) → IsCandidate net k other → cuts list net ≤ cuts other net
  pub in_file : (other : List ℕ) → IsInRuns net k (file_order net) other → cuts other net ≤ cuts list net → IsInRuns net k (file_order net) list
