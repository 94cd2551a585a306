-- A network in one region.
use Rattle.std.specs.Prelude.{map, replicate, slice_index, slice_index_or}
use Rattle.std.specs.List.{Contains}
use Rattle.std.proofs.Common.{◌≡◌, ℕ, true, zero, suc, ◌+◌, ◌<◌, ◌≤◌, List, [], ◌∷◌, length, ap, arith, refl, subst, sym, ◌∙◌}
use Rattle.std.proofs.lemmas.List.Elements.{All-replicate}
use Rattle.network_file.specs.Cutting.{IsCutting, greatest, has_no_gap}
use Rattle.network_file.specs.Limits.{most_regions}
use Rattle.network_file.specs.Network.{Network}
use Rattle.region_cut.specs.Chart.{ChartLists, IsChart, list_at}
use Rattle.region_cut.specs.Cuttings.{region_count}
use Rattle.region_cut.specs.declared.halo.Halo.{Halo}
use Rattle.region_step.specs.Advance.{HasHaloPut}
use Rattle.region_step.specs.Grid.{grid_held}
use Rattle.region_step.specs.Laws.{grid_state, with_halo}
use Rattle.region_step.specs.Opened.{IsIn, halo_cells}
use Rattle.region_step.specs.Region.{RegionState, RegionValue}
use Rattle.region_step.specs.Regions.{HaveCome}
use Rattle.region_step.specs.Setup.{SetupValue}
use Rattle.region_step.specs.Standing.{Stands}
use Rattle.region_step.specs.Start.{StartLists}

none-there : (halos : List Halo) → ((halo : Halo) → Contains halos halo → ⊥) → halos ≡ []
none-there [] none = refl
none-there (halo ∷ halos) none = absurd (none halo (0, omega arith, refl))

-- nothing is around the only region
pub halo-none : (chart : ChartLists) → IsChart chart → region_count chart.cut ≡ 1 → list_at chart.halo 0 ≡ []
halo-none chart sound one = none-there (list_at chart.halo 0) (λ halo has.
    let region = sound.regions 0 (omega (arith, one)) in
    let met = region.met halo has in
    let other = region.others halo.region met.0 in
    let here : halo.region ≡ 0 = omega (arith, other.0, one) in
    other.1 here)

-- so that all is told of it
pub halo-put : (net : Network) (chart : ChartLists) (state : RegionState) → state.number ≡ 0 → list_at chart.halo 0 ≡ [] → HasHaloPut net chart state
halo-put net chart state number none =
    let few : length (halo_cells chart state.number) ≡ 0 =
    ap (λ r. length (halo_cells chart r)) number ∙ ap (λ halo. length (map (λ (h : Halo). h.cell) halo)) none in
    record { each = λ j inside. absurd (omega (arith, inside, few)) }

halo-told : (net : Network) (chart : ChartLists) (start : StartLists) (every t : ℕ) (held : ℕ → ℕ) → list_at chart.halo 0 ≡ [] →
    grid_state net chart start every 0 t ≡ with_halo chart held (grid_state net chart start every 0 t)
unfolding grid_state
halo-told net chart start every t held none = rw none refl

-- a step on, by what `advance` says of it
pub next-stands : (setup : SetupValue) (t : ℕ) (old new : RegionValue) → list_at setup.chart.halo 0 ≡ [] → slice_index setup.start.steps 0 ≤ t → Stands setup 0 t old → IsIn setup.net setup.chart new →
    ((start : StartLists) (every r t : ℕ) → slice_index start.steps r ≤ t →
    old.state ≡ with_halo setup.chart (grid_held setup.net setup.chart.cut start t) (grid_state setup.net setup.chart start every r t) →
    new.state ≡ grid_state setup.net setup.chart start every r (t + 1)) →
    Stands setup 0 (t + 1) new
next-stands setup t old new none started stands opened advanced = record {
  opened = opened;
  state = advanced setup.start setup.every 0 t started
      (stands.state ∙ halo-told setup.net setup.chart setup.start setup.every t (grid_held setup.net setup.chart.cut setup.start t) none);
}

-- its number and its step
pub stands-number : (setup : SetupValue) (t : ℕ) (region : RegionValue) → Stands setup 0 t region → region.state.number ≡ 0
unfolding grid_state
stands-number setup t region stands = ap (λ state. state.number) stands.state

pub stands-step : (setup : SetupValue) (t : ℕ) (region : RegionValue) → Stands setup 0 t region → region.state.step ≡ t
unfolding grid_state
stands-step setup t region stands = ap (λ state. state.step) stands.state

-- the only region as all of them
pub one-come : (setup : SetupValue) (t : ℕ) (region : RegionValue) → region_count setup.chart.cut ≡ 1 → slice_index setup.start.steps 0 ≤ t → Stands setup 0 t region →
    HaveCome setup (t ∷ []) (region ∷ [])
one-come setup t region one started stands = record {
  one_each = sym one;
  later = λ q within. later q (omega (arith, within, one));
  stand = record { one_each = sym one; each = λ q d within. at q d within };
}
  where
    later : (q : ℕ) → q < 1 → slice_index setup.start.steps q ≤ slice_index (t ∷ []) q
    later zero within = started
    later (suc q) within = absurd (omega (arith, within))

    at : (q : ℕ) (d : RegionValue) → q < length (region ∷ []) → Stands setup q (slice_index (t ∷ []) q) (slice_index_or (region ∷ []) q d)
    at zero d within = stands
    at (suc q) d within = absurd (omega arith)

-- the cutting of all cells into one region
greatest-zeros : (n : ℕ) → greatest (replicate n 0) ≡ 0
greatest-zeros zero = refl
greatest-zeros (suc n) = omega (arith, greatest-zeros n)

zeros-no_gap : (n : ℕ) → has_no_gap (replicate n 0) ≡ true
unfolding has_no_gap
zeros-no_gap n = rw (greatest-zeros n) refl

pub zeros-cutting : (n : ℕ) (list : List ℕ) → list ≡ replicate n 0 → IsCutting (length list) list
zeros-cutting n list zeros =
    subst (λ list. IsCutting (length list) list) (sym zeros)
    record { one_each = refl; few = All-replicate (λ region. region < most_regions) n 0 (omega arith); no_gap = zeros-no_gap n }

pub one-region : (n : ℕ) (cut : List ℕ) → cut ≡ replicate n 0 → region_count cut ≡ 1
one-region n cut zeros = ap (λ c. greatest c + 1) zeros ∙ ap (λ g. g + 1) (greatest-zeros n)
