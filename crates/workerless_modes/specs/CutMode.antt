-- A grown cutting of a network: why there is none, and its text.
use Rattle.std.specs.Prelude.{◌≡◌, ℕ, ◌++◌, List, Option, None, codes, length, IsOkAnd}
use Rattle.network_file.specs.Cells.{name_at}
use Rattle.network_file.specs.Network.{Network}
use Rattle.network_file.specs.Reading.{network_of}
use Rattle.line_fields.specs.Fields.{count_field, lines_of}
use Rattle.region_cut.specs.Cuttings.{even_cutting, region_at}
use Rattle.cut_grow.specs.CutConnectors.{cuts}
use Rattle.cut_grow.specs.Grown.{IsGrown}
use Rattle.call_ending.specs.Why.{Why}
use Rattle.call_beginning.specs.NetworkInput.{why_of_network}
use Rattle.call_beginning.specs.Task.{Task}
use Rattle.call_beginning.specs.UsedCutting.{regions_asked}

abbrev pub cut_refused : Task → Option Why
cut_refused task = why_of_network (network_of task.input) (λ net. None)

-- `cell,name,region`
unfoldable pub cell_region_line : (name : List ℕ) → (region : ℕ) → List ℕ
cell_region_line name region = codes "cell," ++ name ++ count_field region ++ codes "\n"

-- the text of a cutting into k regions, which a list has for each cell: `cut,k,E,G` with how many connectors the even and this
-- cutting cut, and a line for each cell
unfoldable pub cutting_text : Network → (k : ℕ) → (list : List ℕ) → List ℕ
cutting_text net k list =
    codes "cut" ++ count_field k ++ count_field (cuts (even_cutting (length net.cells) k) net) ++ count_field (cuts list net) ++ codes "\n"
    ++ lines_of (λ i. cell_region_line (name_at net.cells i) (region_at list i)) (length net.cells)

-- the text of a grown cutting
pub record ShowsGrown (net : Network) (k : ℕ) (text : List ℕ) : Type 0 where
  pub list : List ℕ
  pub grown : IsGrown net k list
  pub text_is : text ≡ cutting_text net k list

-- the regions of the file aren't looked at
abbrev pub IsCutText : Task → List ℕ → Type 0
IsCutText task text = IsOkAnd (network_of task.input) (λ net. ShowsGrown net (regions_asked net task.request) text)
