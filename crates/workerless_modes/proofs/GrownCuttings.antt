-- A grown cutting cuts no more connectors than the even one.
use Rattle.std.specs.Prelude.{IsOkAnd}
use Rattle.std.proofs.Common.{ℕ, ◌≡◌, ◌≤◌, List, Result, Ok, Err, arith, length, refl}
use Rattle.command_words.specs.Words.{IsInRange}
use Rattle.network_file.specs.Limits.{most_regions}
use Rattle.network_file.specs.Network.{Network}
use Rattle.network_file.specs.Reading.{network_of}
use Rattle.network_file.specs.declared.fault.NetFault.{NetFault}
use Rattle.network_file.proofs.SoundNetwork.{network_of-sound}
use Rattle.region_cut.specs.Cuttings.{even_cutting}
use Rattle.cut_grow.specs.CutConnectors.{cuts}
use Rattle.cut_grow.proofs.EvenRuns.{even-candidate}
use Rattle.call_beginning.specs.Task.{Task}
use Rattle.call_beginning.specs.UsedCutting.{regions_asked}
use Rattle.call_beginning.proofs.UsedCutting.{asked-some}
use Rattle.workerless_modes.specs.CutMode.{IsCutText, ShowsGrown}

abbrev pub CutsNoMore : (net : Network) (k : ℕ) (text : List ℕ) → Type 0
CutsNoMore net k text = (shows : ShowsGrown net k text) × (cuts shows.list net ≤ cuts (even_cutting (length net.cells) k) net)

grown-no_more : (net : Network) (k : ℕ) (text : List ℕ) → 1 ≤ k → k ≤ most_regions → k ≤ length net.cells → ShowsGrown net k text → CutsNoMore net k text
grown-no_more net k text some few cells shows = (shows, shows.grown.fewest (even_cutting (length net.cells) k) (even-candidate net k some few cells))

-- the text of a request in range, as those of all words are
pub shown-no_more : (task : Task) (text : List ℕ) → IsInRange task.request → IsCutText task text →
    IsOkAnd (network_of task.input) (λ net. CutsNoMore net (regions_asked net task.request) text)
shown-no_more task text in_range is = by (network_of task.input) refl is
  where
    by : (read : Result Network NetFault) → network_of task.input ≡ read → IsOkAnd read (λ net. ShowsGrown net (regions_asked net task.request) text) →
        IsOkAnd read (λ net. CutsNoMore net (regions_asked net task.request) text)
    by (Ok net) reads shows =
        let some = asked-some net task.request (network_of-sound task.input net reads) in_range in
        grown-no_more net (regions_asked net task.request) text some.0 some.1 (omega arith) shows
    by (Err fault) reads shows = absurd shows
