-- From the lists that were gathered to those of the chart; all are over the regions of a cutting of the network's cells.
use Rattle.std.specs.Prelude.{All, not, ◌==◌, ◌&&◌, ◌^◌}
use Rattle.std.specs.List.{filter, position_or_len, range_with_len}
use Rattle.std.specs.List.Sorted.{IsStrictlyIncreasing}
use Rattle.std.proofs.Common.{◌≡◌, ℕ, ◌<◌, Bool, List, [], ◌∷◌, length, map, get_or, refl, sym, ap, subst, ◌∙◌, arith}
use Rattle.std.proofs.lemmas.Bool.{eq-eqb}
use Rattle.std.proofs.lemmas.List.{get_or_default}
use Rattle.std.proofs.lemmas.List.Elements.{Contains-get_or}
use Rattle.std.proofs.lemmas.List.FromFn.{length-map-range_with_len, length-range_with_len}
use Rattle.std.proofs.lemmas.List.Filters.{length-filter_both}
use Rattle.network_file.specs.Cutting.{IsCutting}
use Rattle.network_file.specs.Network.{Network}
use Rattle.network_file.specs.Sound.{IsNetwork}
use Rattle.region_cut.specs.Chart.{ChartLists, IsChart, border_of, cells_in, chart_of, connectors_of, halo_at, halo_of, list_at, neighbours_of}
use Rattle.region_cut.specs.Cuttings.{region_at, region_count}
use Rattle.region_cut.specs.Gathered.{CanPlace, inside, is_met, met_by, outside, placed, halo_regions}
use Rattle.region_cut.specs.Neighbours.{is_border, is_halo}
use Rattle.region_cut.specs.declared.halo.Halo.{Halo}
use Rattle.region_cut.proofs.Anys.{finds}
use Rattle.region_cut.proofs.ChartLaws.{chart_of-IsChart}
use Rattle.network_file.proofs.NetworkFacts.{few_cells}
use Rattle.region_cut.proofs.Gathering.{inside-met_by, met-border, outside-met_by, halo_regions-halo_of}
use Rattle.region_cut.proofs.ListsByRegion.{list_at-map, lists_are}
use Rattle.region_cut.proofs.Membership.{border_of-Contains, border_of-increasing, Contains-halo_of, region_at-there}
use Rattle.region_cut.proofs.Ranges.{Contains-filter_range}

-- the lists of a function of the region, one for each region
abbrev pub AreLists : {X : Type 0} → (cut : List ℕ) → (ℕ → X) → List X → Type 0
AreLists cut f lists = lists ≡ map f (range_with_len 0 (region_count cut))

are_lists : {X : Type 0} (cut : List ℕ) (f : ℕ → X) (lists : List X) (count : ℕ) → lists ≡ map f (range_with_len 0 count) → count ≡ region_count cut → AreLists cut f lists
are_lists cut f lists count is same = is ∙ ap (λ n. map f (range_with_len 0 n)) same

length-lists : {X : Type 0} (cut : List ℕ) (f : ℕ → X) (lists : List X) → AreLists cut f lists → length lists ≡ region_count cut
length-lists cut f lists is = ap length is ∙ length-map-range_with_len f 0 (region_count cut)

at_lists : {X : Type 0} (cut : List ℕ) (f : ℕ → List X) (lists : List (List X)) (r : ℕ) → AreLists cut f lists → r < region_count cut → list_at lists r ≡ f r
at_lists cut f lists r is within = ap (λ ls. list_at ls r) is ∙ list_at-map f (region_count cut) r within

map_same : {X Y : Type 0} (f g : X → Y) → ((x : X) → f x ≡ g x) → (xs : List X) → map f xs ≡ map g xs
map_same f g same [] = refl
map_same f g same (x ∷ xs) = let first = same x in let rest = map_same f g same xs in cc

lists_same : {X : Type 0} (f g : ℕ → List X) (n : ℕ) → ((r : ℕ) → r < n → f r ≡ g r) → map f (range_with_len 0 n) ≡ map g (range_with_len 0 n)
lists_same f g n same =
    lists_are g (map f (range_with_len 0 n)) n (length-map-range_with_len f 0 n) (λ r within. list_at-map f n r within ∙ same r within)

-- a sound network, and a cutting of its cells into so many regions
pub record IsCutInto (net : Network) (cut : List ℕ) (regions : ℕ) : Type 0 where
  pub sound : IsNetwork net
  pub one_each : length cut ≡ length net.cells
  pub count : regions ≡ region_count cut

pub cut_into : {inside net : Network} {whole cut : List ℕ} {count : ℕ} → IsNetwork inside → inside ≡ net → length whole ≡ length net.cells → count ≡ region_count whole → cut ≡ whole →
    IsCutInto net cut count
cut_into sound same one_each counted is = record {
  sound = subst IsNetwork same sound;
  one_each = ap length is ∙ one_each;
  count = counted ∙ ap region_count (sym is);
}

pub few_numbers : {net : Network} {cut : List ℕ} {count : ℕ} → IsCutInto net cut count → length cut < 2 ^ 32
few_numbers {net} into = omega (arith, into.one_each, few_cells net into.sound)

-- each number of a cutting is a region's
pub regions_there : {net : Network} {cut : List ℕ} {count : ℕ} → IsCutInto net cut count → All (λ region. region < count) cut
regions_there {net} {cut} into = λ k d within. omega (arith, into.count, region_at-there cut k, get_or_default cut k d 0 within)

-- cells

pub cells-are : {net : Network} {cut : List ℕ} {count : ℕ} {lists : List (List ℕ)} → IsCutInto net cut count →
    lists ≡ map (λ r. inside cut r (range_with_len 0 (length cut))) (range_with_len 0 count) → AreLists cut (cells_in net cut) lists
unfolding cells_in
cells-are {net} {cut} {count} {lists} into is =
    are_lists cut (λ r. inside cut r (range_with_len 0 (length net.cells))) lists count
    (is ∙ ap (λ n. map (λ r. inside cut r (range_with_len 0 n)) (range_with_len 0 count)) into.one_each) into.count

-- connectors

pub connectors-are : {net : Network} {cut : List ℕ} {count : ℕ} {lists : List (List ℕ)} → IsCutInto net cut count → lists ≡ map (connectors_of net cut) (range_with_len 0 count) →
    AreLists cut (connectors_of net cut) lists
connectors-are {net} {cut} {count} {lists} into is = are_lists cut (connectors_of net cut) lists count is into.count

pub connectors-each : {net : Network} {cut : List ℕ} {count : ℕ} {lists : List (List ℕ)} → IsCutInto net cut count → AreLists cut (connectors_of net cut) lists → lists ≡ map (connectors_of net cut) (range_with_len 0 (length lists))
connectors-each {net} {cut} {count} {lists} into are = are ∙ ap (λ n. map (connectors_of net cut) (range_with_len 0 n)) (sym (length-lists cut (connectors_of net cut) lists are))

-- cells met

pub met-are : {net : Network} {cut : List ℕ} {count : ℕ} {connectors met : List (List ℕ)} → IsCutInto net cut count → connectors ≡ map (connectors_of net cut) (range_with_len 0 count) →
    met ≡ map (met_by net cut) (range_with_len 0 (length connectors)) → AreLists cut (met_by net cut) met
met-are {net} {cut} {count} {connectors} {met} into connectors_are is =
    are_lists cut (met_by net cut) met (length connectors) is (length-lists cut (connectors_of net cut) connectors (connectors-are into connectors_are))

pub met-there : {net : Network} {cut : List ℕ} {count : ℕ} {met : List (List ℕ)} → IsCutInto net cut count → AreLists cut (met_by net cut) met → (r : ℕ) → r < length met →
    All (λ i. i < length cut) (list_at met r)
unfolding met_by
met-there {net} {cut} {count} {met} into is r within =
    let here = at_lists cut (met_by net cut) met r is (omega (arith, length-lists cut (met_by net cut) met is)) in
    subst (All (λ i. i < length cut)) (sym here)
    (λ k d inside. rw into.one_each ((Contains-filter_range (is_met net.connectors cut r) (length net.cells) _ (Contains-get_or (met_by net cut r) k d inside)).0))

-- border

pub border-are : {net : Network} {cut : List ℕ} {count : ℕ} {met border : List (List ℕ)} → IsCutInto net cut count → AreLists cut (met_by net cut) met →
    border ≡ map (λ r. inside cut r (list_at met r)) (range_with_len 0 (length met)) → AreLists cut (border_of net cut) border
border-are {net} {cut} {count} {met} {border} into are_met is =
    are_lists cut (λ r. inside cut r (list_at met r)) border (length met) is (length-lists cut (met_by net cut) met are_met) ∙
    lists_same (λ r. inside cut r (list_at met r)) (border_of net cut) (region_count cut)
    (λ r within. ap (inside cut r) (at_lists cut (met_by net cut) met r are_met within) ∙ inside-met_by net cut r)

pub border-increasing : {net : Network} {cut : List ℕ} {count : ℕ} {border : List (List ℕ)} → IsCutInto net cut count → AreLists cut (border_of net cut) border → (r : ℕ) → r < length border →
    IsStrictlyIncreasing (list_at border r)
border-increasing {net} {cut} {count} {border} into is r within =
    subst IsStrictlyIncreasing (sym (at_lists cut (border_of net cut) border r is (omega (arith, length-lists cut (border_of net cut) border is)))) (border_of-increasing net cut r)

border_of-few : (net : Network) (cut : List ℕ) (r : ℕ) → IsNetwork net → length (border_of net cut r) < 2 ^ 32
unfolding border_of
border_of-few net cut r sound =
    let p : ℕ → Bool = λ i. (region_at cut i == r) && is_border net.connectors cut i in
    let cells : List ℕ = range_with_len 0 (length net.cells) in
    omega (arith, length-filter_both p (λ i. not (p i)) (λ i. refl) cells, length-range_with_len 0 (length net.cells), few_cells net sound)

-- each cell met has its place
pub met-CanPlace : {net : Network} {cut : List ℕ} {count : ℕ} {met border : List (List ℕ)} → IsCutInto net cut count → AreLists cut (met_by net cut) met →
    AreLists cut (border_of net cut) border → (r : ℕ) → r < length met → All (CanPlace cut border) (list_at met r)
unfolding met_by
met-CanPlace {net} {cut} {count} {met} {border} into are_met are_border r within =
    let here = at_lists cut (met_by net cut) met r are_met (omega (arith, length-lists cut (met_by net cut) met are_met)) in
    subst (All (CanPlace cut border)) (sym here)
    (λ k d inside.
    let i : ℕ = get_or (met_by net cut r) k d in
    let passed = Contains-filter_range (is_met net.connectors cut r) (length net.cells) i (Contains-get_or (met_by net cut r) k d inside) in
    let region : region_at cut i < region_count cut = region_at-there cut i in
    let list : list_at border (region_at cut i) ≡ border_of net cut (region_at cut i) = at_lists cut (border_of net cut) border (region_at cut i) are_border region in
    record {
      there = rw into.one_each passed.0;
      region = omega (arith, region, length-lists cut (border_of net cut) border are_border);
      few = rw list (border_of-few net cut (region_at cut i) into.sound);
      listed =
          rw list (
          finds (λ j. j == i) (border_of net cut (region_at cut i)) i
          (border_of-Contains net cut (region_at cut i) i passed.0 refl (met-border net.connectors cut r i passed.1)) (eq-eqb i i refl)
          );
    })

-- halo

pub halo-are : {net : Network} {cut : List ℕ} {count : ℕ} {met border : List (List ℕ)} {halo : List (List Halo)} → IsCutInto net cut count → AreLists cut (met_by net cut) met → AreLists cut (border_of net cut) border →
    halo ≡ map (λ r. map (placed cut border) (outside cut r (list_at met r))) (range_with_len 0 (length met)) → AreLists cut (halo_of net cut) halo
unfolding halo_of
halo-are {net} {cut} {count} {met} {border} {halo} into are_met are_border is =
    let same : (i : ℕ) → placed cut border i ≡ halo_at net cut i =
    λ i. ap (λ list. record { cell = i; region = region_at cut i; place = position_or_len (λ j. j == i) list })
    (at_lists cut (border_of net cut) border (region_at cut i) are_border (region_at-there cut i)) in
    are_lists cut (λ r. map (placed cut border) (outside cut r (list_at met r))) halo (length met) is (length-lists cut (met_by net cut) met are_met) ∙
    lists_same (λ r. map (placed cut border) (outside cut r (list_at met r))) (halo_of net cut) (region_count cut)
    (λ r within.
    ap (λ cells. map (placed cut border) (outside cut r cells)) (at_lists cut (met_by net cut) met r are_met within) ∙
    ap (map (placed cut border)) (outside-met_by net cut r) ∙
    map_same (placed cut border) (halo_at net cut) same (filter (is_halo net.connectors cut r) (range_with_len 0 (length net.cells))))

pub halo-there : {net : Network} {cut : List ℕ} {count : ℕ} {halo : List (List Halo)} → IsCutInto net cut count → AreLists cut (halo_of net cut) halo → (r : ℕ) → r < length halo →
    All (λ other. other.region < length halo) (list_at halo r)
halo-there {net} {cut} {count} {halo} into is r within =
    let same = length-lists cut (halo_of net cut) halo is in
    subst (All (λ other. other.region < length halo)) (sym (at_lists cut (halo_of net cut) halo r is (omega (arith, same))))
    (λ k d inside.
    let other : Halo = get_or (halo_of net cut r) k d in
    let here = Contains-halo_of net cut r other (Contains-get_or (halo_of net cut r) k d inside) in
    omega (arith, same, ap (λ h. h.region) here.2, region_at-there cut other.cell))

-- neighbours

neighbours-are : (net : Network) (cut : List ℕ) (halo : List (List Halo)) (lists : List (List ℕ)) → IsNetwork net → AreLists cut (halo_of net cut) halo →
    lists ≡ map (λ r. halo_regions (length halo) (list_at halo r)) (range_with_len 0 (length halo)) → AreLists cut (neighbours_of net cut) lists
neighbours-are net cut halo lists sound are_halo is =
    let count = length-lists cut (halo_of net cut) halo are_halo in
    are_lists cut (λ r. halo_regions (length halo) (list_at halo r)) lists (length halo) is count ∙
    lists_same (λ r. halo_regions (length halo) (list_at halo r)) (neighbours_of net cut) (region_count cut)
    (λ r within.
    ap (λ n. halo_regions n (list_at halo r)) count ∙ ap (halo_regions (region_count cut)) (at_lists cut (halo_of net cut) halo r are_halo within) ∙
    halo_regions-halo_of net cut r sound)

-- the lists together

pub chart-is : {net : Network} {whole cut : List ℕ} {count : ℕ} {cells neighbours border connectors : List (List ℕ)} {halo : List (List Halo)} → IsCutInto net cut count → cut ≡ whole →
    cells ≡ map (λ r. inside cut r (range_with_len 0 (length cut))) (range_with_len 0 count) → connectors ≡ map (connectors_of net cut) (range_with_len 0 count) →
    AreLists cut (border_of net cut) border → AreLists cut (halo_of net cut) halo → neighbours ≡ map (λ r. halo_regions (length halo) (list_at halo r)) (range_with_len 0 (length halo)) →
    record { cut = whole; cells = cells; neighbours = neighbours; border = border; connectors = connectors; halo = halo } ≡ chart_of net whole
unfolding chart_of
chart-is {net} {whole} {cut} {count} {cells} {neighbours} {border} {connectors} {halo} into same are_cells are_connectors are_border are_halo are_neighbours =
    subst
    (λ of. record { cut = of; cells = cells; neighbours = neighbours; border = border; connectors = connectors; halo = halo } ≡ chart_of net of) same (
    rw (cells-are into are_cells, neighbours-are net cut halo neighbours into.sound are_halo are_neighbours, are_border, connectors-are into are_connectors, are_halo) refl
    )

pub chart-sound : {net : Network} {whole cut : List ℕ} {count : ℕ} {chart : ChartLists} → IsCutInto net cut count → cut ≡ whole → IsCutting (length whole) whole → chart ≡ chart_of net whole →
    IsChart chart
chart-sound {net} {whole} into same cutting is = subst IsChart (sym is) (chart_of-IsChart net whole (ap length (sym same) ∙ into.one_each) cutting)
