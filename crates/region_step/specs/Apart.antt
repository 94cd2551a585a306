-- A region's own cells and those of its halo.
use Rattle.std.specs.Prelude.{◌≡◌, ℕ, eqb, false, List}
use Rattle.std.specs.List.{Contains, list_any}
use Rattle.std.specs.List.Sorted.{IsStrictlyIncreasing}

-- each list rises, and no cell is in both
pub record AreApart (cells halo : List ℕ) : Type 0 where
  pub rising : IsStrictlyIncreasing cells
  pub halo_rising : IsStrictlyIncreasing halo
  pub apart : (i : ℕ) → Contains cells i → list_any (eqb i) halo ≡ false
