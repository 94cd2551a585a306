-- Lawful steps by a test of each region, and the law that a rise keeps them lawful.
use Rattle.std.specs.Prelude.{All, slice_index, slice_set}
use Rattle.std.proofs.Common.{◌≡◌, ◌≢◌, ℕ, ◌<◌, ◌≤◌, ◌+◌, inl, inr, List, true, get_or, set, length, sym, subst, ◌∙◌, arith}
use Rattle.std.proofs.lemmas.Bool.{cases_eq}
use Rattle.std.proofs.lemmas.List.{get_or-set_other, get_or-set_same, get_or_default, length-set}
use Rattle.std.proofs.lemmas.List.Elements.{All-set}
use Rattle.network_file.specs.Network.{Network}
use Rattle.region_cut.specs.Chart.{ChartLists, chart_of, list_at}
use Rattle.region_cut.specs.Cuttings.{region_count}
use Rattle.region_cut.specs.Neighbours.{are_neighbours}
use Rattle.region_cut.specs.LawfulSteps.{AreLawful}
use Rattle.region_cut.proofs.Meetings.{neighbours-by}
use Rattle.step_words.specs.Rising.{CanRise}
use Rattle.step_words.proofs.Neighbours.{all_neighbours, each_neighbour, neighbour-there}

-- a region stands no further than the last step, and at most one step ahead of each neighbour
abbrev pub StandsClose : Network → ChartLists → (steps : List ℕ) → (r : ℕ) → Type 0
StandsClose net chart steps r =
    (slice_index steps r ≤ net.steps) × All (λ q. slice_index steps r ≤ slice_index steps q + 1) (list_at chart.neighbours r)

pub lawful-from : (net : Network) (cut : List ℕ) (chart : ChartLists) (steps : List ℕ) → chart ≡ chart_of net cut → length steps ≡ region_count cut →
    ((r : ℕ) → r < region_count cut → StandsClose net chart steps r) → AreLawful net cut steps
lawful-from net cut chart steps is long each = record {
  one_each = long;
  in_time = λ r d within. let here = (each r (omega (arith, long, within))).0 in omega (arith, here, get_or_default steps r d 0 within);
  close = λ r q near.
      let within = (neighbour-there net cut r q near).0 in
      each_neighbour (λ p. slice_index steps r ≤ slice_index steps p + 1) net cut chart r is within (each r within).1 q near;
}

pub lawful-at : (net : Network) (cut : List ℕ) (chart : ChartLists) (steps : List ℕ) (r : ℕ) → chart ≡ chart_of net cut → AreLawful net cut steps → r < region_count cut →
    StandsClose net chart steps r
lawful-at net cut chart steps r is lawful within = (
  lawful.in_time r 0 (omega (arith, lawful.one_each)),
  all_neighbours (λ q. slice_index steps r ≤ slice_index steps q + 1) net cut chart r is within (lawful.close r),
)

-- no neighbour stands lower

pub rise-from : (net : Network) (cut : List ℕ) (chart : ChartLists) (steps : List ℕ) (r : ℕ) → chart ≡ chart_of net cut → r < region_count cut → slice_index steps r < net.steps →
    All (λ q. slice_index steps r ≤ slice_index steps q) (list_at chart.neighbours r) → CanRise net cut steps r
rise-from net cut chart steps r is within below all = record {
  below = below;
  lowest = each_neighbour (λ q. slice_index steps r ≤ slice_index steps q) net cut chart r is within all;
}

pub rise-lowest : (net : Network) (cut : List ℕ) (chart : ChartLists) (steps : List ℕ) (r : ℕ) → chart ≡ chart_of net cut → r < region_count cut → CanRise net cut steps r →
    All (λ q. slice_index steps r ≤ slice_index steps q) (list_at chart.neighbours r)
rise-lowest net cut chart steps r is within can = all_neighbours (λ q. slice_index steps r ≤ slice_index steps q) net cut chart r is within can.lowest

-- a rise keeps the steps lawful
pub rise-lawful : (net : Network) (cut : List ℕ) (steps : List ℕ) (r : ℕ) → r < region_count cut → AreLawful net cut steps → CanRise net cut steps r →
    AreLawful net cut (slice_set steps r (slice_index steps r + 1))
rise-lawful net cut steps r within lawful can =
    let step : ℕ = slice_index steps r in
    let inside : r < length steps = omega (arith, lawful.one_each) in
    let own : get_or (set steps r (step + 1)) r 0 ≡ step + 1 = get_or-set_same steps r (step + 1) 0 inside in
    record {
      one_each = length-set steps r (step + 1) ∙ lawful.one_each;
      in_time = All-set (λ n. n ≤ net.steps) steps r (step + 1) (omega (arith, can.below)) lawful.in_time;
      close = λ p q near. elim (cases_eq p r) [
        | inl ahead ↦
            let other : q ≢ r = λ same. (neighbours-by net.connectors cut p q near).differ (ahead ∙ sym same) in
            let low : step ≤ slice_index steps q = can.lowest q (subst (λ s. are_neighbours net.connectors cut s q ≡ true) ahead near) in
            rw (ahead, own, get_or-set_other steps r q (step + 1) 0 other) (omega (arith, low))
        | inr elsewhere ↦ elim (cases_eq q r) [
          | inl behind ↦
              let close : slice_index steps p ≤ step + 1 = subst (λ s. slice_index steps p ≤ slice_index steps s + 1) behind (lawful.close p q near) in
              rw (behind, own, get_or-set_other steps r p (step + 1) 0 elsewhere) (omega (arith, close))
          | inr apart ↦
              rw (get_or-set_other steps r p (step + 1) 0 elsewhere, get_or-set_other steps r q (step + 1) 0 apart) (lawful.close p q near)
        ]
      ];
    }
