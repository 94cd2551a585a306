-- The cutting of a run.
use Rattle.std.specs.Prelude.{◌≡◌, ◌≢◌, ℕ, List, length, min}
use Rattle.command_words.specs.declared.cut_kind.CutKind.{CutKind}
use Rattle.command_words.specs.declared.cut_kind.CutKind.TheVariants.{Even, Grown}
use Rattle.command_words.specs.declared.request.Request.{Request}
use Rattle.network_file.specs.Network.{Network}
use Rattle.region_cut.specs.Cuttings.{even_cutting}
use Rattle.cut_grow.specs.Grown.{IsGrown}
use Rattle.call_beginning.specs.UsedRegions.{regions_wanted}

-- into how many regions a network is cut: as many as are wanted, but at most as many as there are cells
abbrev pub regions_asked : Network → Request → ℕ
regions_asked net request = min (regions_wanted (length net.cells) request) (length net.cells)

-- a cutting of a kind into so many regions
abbrev pub IsCuttingBy : CutKind → Network → (regions : ℕ) → (cut : List ℕ) → Type 0
IsCuttingBy Even net regions cut = cut ≡ even_cutting (length net.cells) regions
IsCuttingBy Grown net regions cut = IsGrown net regions cut

-- a cutting for a request: the file's where it has one, and else one of the kind that is asked for
pub record IsCuttingOf (net : Network) (request : Request) (cut : List ℕ) : Type 0 where
  pub own : length net.regions ≢ 0 → cut ≡ net.regions
  pub asked : length net.regions ≡ 0 → IsCuttingBy request.cut net (regions_asked net request) cut
