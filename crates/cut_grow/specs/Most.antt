-- The most connectors inside runs of two sizes, by how many runs of each size there are.
use Rattle.std.specs.Prelude.{◌≡◌, ℕ, zero, suc, ◌+◌, ◌*◌, ◌^◌, ◌<◌, ◌≤◌, max, List, length, slice_index}
use Rattle.cut_grow.specs.Spans.{AreGains, inside}
use Rattle.cut_grow.specs.declared.span.Span.{Span}
use Rattle.cut_grow.specs.declared.gains.Gains.{Gains}
use Rattle.cut_grow.specs.declared.sizes.Sizes.{Sizes}

-- how many places so many runs of a size and so many of one place more have
abbrev pub start_of : (floor small large : ℕ) → ℕ
start_of floor small large = small * floor + large * (floor + 1)

-- without a small run
abbrev pub most_large : List Span → (floor large : ℕ) → ℕ
most_large spans floor zero = 0
most_large spans floor (suc large) = most_large spans floor large + inside spans (start_of floor 0 large) (floor + 1)

-- with one small run more than where the most are those given
abbrev pub most_next : List Span → (floor : ℕ) → (before : ℕ → ℕ) → (small large : ℕ) → ℕ
most_next spans floor before small zero = before 0 + inside spans (start_of floor small 0) floor
most_next spans floor before small (suc large) = max
    (before (suc large) + inside spans (start_of floor small (suc large)) floor)
    (most_next spans floor before small large + inside spans (start_of floor (suc small) large) (floor + 1))

-- the most inside so many runs of a size and so many of one place more, in any order
unfoldable pub most : List Span → (floor small large : ℕ) → ℕ
most spans floor zero = most_large spans floor
most spans floor (suc small) = most_next spans floor (most spans floor small) small

-- the runs of both sizes make up the places, and the gains are those of the two sizes
pub record AreGainsOf (cells : ℕ) (sizes : Sizes) (gains : Gains) : Type 0 where
  pub whole : start_of sizes.floor sizes.smalls sizes.larges ≡ cells
  pub few_cells : cells < 2 ^ 32
  pub some : 1 ≤ sizes.floor
  pub fits : sizes.floor + 1 < 2 ^ 32
  pub few_runs : sizes.smalls + sizes.larges ≤ 512
  pub few_spans : length gains.spans.items < 2 ^ 32
  pub small : AreGains gains.spans.items cells sizes.floor gains.small.items
  pub large : AreGains gains.spans.items cells (sizes.floor + 1) gains.large.items

-- the most for each number of small runs and of large ones, row by row of as many as there are numbers of large ones
pub record IsTable (sizes : Sizes) (spans : List Span) (best : List ℕ) : Type 0 where
  pub each : (small large : ℕ) → small ≤ sizes.smalls → large ≤ sizes.larges → small * (sizes.larges + 1) + large < length best →
      slice_index best (small * (sizes.larges + 1) + large) ≡ most spans sizes.floor small large
