-- Where the cells of connectors stand in an order, and how many connectors lie inside runs of it.
use Rattle.std.specs.Prelude.{◌≡◌, ℕ, ◌+◌, ◌<◌, ◌≤◌, Bool, ◌&&◌, nat_le, nat_lt, List, [], ◌∷◌, length, slice_index, All, count_by}
use Rattle.std.specs.List.{Contains}
use Rattle.network_file.specs.Connectors.{cells_of}
use Rattle.network_file.specs.declared.connector.Connector.{Connector}
use Rattle.cut_grow.specs.declared.span.Span.{Span}

-- the place of each cell in an order of all cells
pub record ArePlaces (cells : ℕ) (order places : List ℕ) : Type 0 where
  pub long : length places ≡ cells
  pub there : (i : ℕ) → i < cells → slice_index places i < cells
  pub back : (i : ℕ) → i < cells → slice_index order (slice_index places i) ≡ i
  pub forth : (p : ℕ) → p < cells → slice_index places (slice_index order p) ≡ p

-- the first and the last place of a connector's cells
pub record IsSpan (places : List ℕ) (connector : Connector) (span : Span) : Type 0 where
  pub around : All (λ i. (span.first ≤ slice_index places i) × (slice_index places i ≤ span.last)) (cells_of connector)
  pub first : (i : ℕ) × Contains (cells_of connector) i × (slice_index places i ≡ span.first)
  pub last : (i : ℕ) × Contains (cells_of connector) i × (slice_index places i ≡ span.last)

-- all its places are those of a run of so many places from one on
abbrev pub is_inside : (from size : ℕ) → Span → Bool
is_inside from size span = nat_le from span.first && nat_lt span.last (from + size)

-- how many lie inside such a run
abbrev pub inside : List Span → (from size : ℕ) → ℕ
inside spans from size = count_by (is_inside from size) spans

-- how many lie inside one of the runs of these sizes, one after the other
abbrev pub inside_runs : List Span → (from : ℕ) → (sizes : List ℕ) → ℕ
inside_runs spans from [] = 0
inside_runs spans from (size ∷ sizes) = inside spans from size + inside_runs spans (from + size) sizes

-- for each place how many lie inside a run of this size from it on
pub record AreGains (spans : List Span) (cells size : ℕ) (gains : List ℕ) : Type 0 where
  pub long : length gains ≡ cells
  pub each : (p : ℕ) → p < cells → slice_index gains p ≡ inside spans p size

-- the spans lie among so many places
abbrev pub AreWithin : (cells : ℕ) → List Span → Type 0
AreWithin cells spans = All (λ span. (span.first < cells) × (span.last < cells)) spans
