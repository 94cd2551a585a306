-- What a chart's lists name is there.
use Rattle.std.specs.Prelude.{All}
use Rattle.std.specs.List.{Contains}
use Rattle.std.proofs.Common.{◌≡◌, ℕ, ◌<◌, List, length, get_or, refl, sym, subst}
use Rattle.std.proofs.lemmas.List.Elements.{Contains-get_or}
use Rattle.region_cut.specs.Chart.{ChartLists, IsChart, IsPlaced, list_at}
use Rattle.region_cut.specs.Cuttings.{region_count}
use Rattle.region_cut.specs.declared.halo.Halo.{Halo}

-- what holds of each element
each : {X : Type 0} (P : X → Type 0) (list items : List X) → list ≡ items → ((x : X) → Contains items x → P x) → All P list
each P list items is holds = subst (All P) (sym is) (λ k d within. holds (get_or items k d) (Contains-get_or items k d within))

pub cells-there : (chart : ChartLists) (r : ℕ) (list : List ℕ) → IsChart chart → r < region_count chart.cut → list ≡ list_at chart.cells r → All (λ i. i < length chart.cut) list
cells-there chart r list sound within is =
    each (λ i. i < length chart.cut) list (list_at chart.cells r) is (λ i has. ((sound.regions r within).own i has).0)

pub neighbours-there : (chart : ChartLists) (r : ℕ) (list : List ℕ) → IsChart chart → r < region_count chart.cut → list ≡ list_at chart.neighbours r → All (λ q. q < region_count chart.cut) list
neighbours-there chart r list sound within is =
    each (λ q. q < region_count chart.cut) list (list_at chart.neighbours r) is (λ q has. ((sound.regions r within).others q has).0)

pub border-there : (chart : ChartLists) (r : ℕ) (list : List ℕ) → IsChart chart → r < region_count chart.cut → list ≡ list_at chart.border r → All (λ i. i < length chart.cut) list
border-there chart r list sound within is =
    each (λ i. i < length chart.cut) list (list_at chart.border r) is
    (λ i has. let region = sound.regions r within in (region.own i (region.inside i has)).0)

halo-placed : (chart : ChartLists) (r : ℕ) (halo : Halo) → IsChart chart → r < region_count chart.cut → Contains (list_at chart.halo r) halo → IsPlaced chart halo
halo-placed chart r halo sound within has =
    let met = (sound.regions r within).met halo has in
    let region : halo.region < region_count chart.cut = ((sound.regions r within).others halo.region met.0).0 in
    record {
      cell =
          let all = border-there chart halo.region (list_at chart.border halo.region) sound region refl in
          rw met.3 at (all halo.place 0 met.2);
      region = region;
      place = met.2;
    }

pub halo-there : (chart : ChartLists) (r : ℕ) (list : List Halo) → IsChart chart → r < region_count chart.cut → list ≡ list_at chart.halo r → All (IsPlaced chart) list
halo-there chart r list sound within is = each (IsPlaced chart) list (list_at chart.halo r) is (λ halo has. halo-placed chart r halo sound within has)
