-- Runs that have the most connectors inside, and the cutting in these runs.
use Rattle.std.specs.Prelude.{◌≡◌, ℕ, ◌+◌, ◌≤◌, ◌⊎◌, List, length, sum, All}
use Rattle.network_file.specs.Network.{Network}
use Rattle.cut_grow.specs.CutConnectors.{cuts}
use Rattle.cut_grow.specs.Grown.{IsInRuns}
use Rattle.cut_grow.specs.Most.{most, start_of}
use Rattle.cut_grow.specs.Spans.{inside_runs}
use Rattle.cut_grow.specs.declared.sizes.Sizes.{Sizes}
use Rattle.cut_grow.specs.declared.span.Span.{Span}

-- the size of a small run, or of a large one where there are any
abbrev pub IsSize : Sizes → (size : ℕ) → Type 0
IsSize sizes size = (size ≡ sizes.floor) ⊎ ((size ≡ sizes.floor + 1) × (1 ≤ sizes.larges))

-- so many runs of these sizes, of which the most spans lie inside
pub record AreBestRuns (sizes : Sizes) (spans : List Span) (runs : List ℕ) : Type 0 where
  pub long : length runs ≡ sizes.smalls + sizes.larges
  pub each : All (IsSize sizes) runs
  pub whole : sum runs ≡ start_of sizes.floor sizes.smalls sizes.larges
  pub best : inside_runs spans 0 runs ≡ most spans sizes.floor sizes.smalls sizes.larges

-- a cutting in even runs of the order that cuts all but so many connectors, and no other in such runs cuts fewer
pub record IsBestIn (net : Network) (k : ℕ) (order list : List ℕ) (kept : ℕ) : Type 0 where
  pub in_runs : IsInRuns net k order list
  pub rest : cuts list net + kept ≡ length net.connectors
  pub fewest : (other : List ℕ) → IsInRuns net k order other → length net.connectors ≤ cuts other net + kept
