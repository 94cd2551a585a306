-- All regions taken through a step: what is told to a halo is in bounds, and so each can take its step.
use Rattle.std.specs.Prelude.{Option, Some, None, Result, Ok, Err, IfOk, slice_index, slice_index_or, slice_set}
use Rattle.std.specs.List.{Contains}
use Rattle.std.proofs.Common.{◌≡◌, ◌≢◌, ℕ, ◌<◌, ◌+◌, inl, inr, List, length, get_or, set, sym, ap, subst, ◌∙◌, arith}
use Rattle.std.proofs.lemmas.Bool.{cases_eq, cases_lt}
use Rattle.std.proofs.lemmas.List.{get_or_default, get_or-set_other, get_or-set_same, length-set}
use Rattle.std.proofs.lemmas.List.Elements.{Contains-get_or}
use Rattle.network_file.specs.Network.{Network}
use Rattle.flow_model.specs.Bounds.{IsHeldInBounds}
use Rattle.flow_model.specs.State.{occupancy}
use Rattle.region_cut.specs.Chart.{ChartLists, IsChart, list_at}
use Rattle.region_cut.specs.Cuttings.{region_count}
use Rattle.region_cut.specs.declared.halo.Halo.{Halo}
use Rattle.region_step.specs.Advance.{HasRowsInBounds, advanced}
use Rattle.region_step.specs.Laws.{grid_state}
use Rattle.region_step.specs.Opened.{halo_cells}
use Rattle.region_step.specs.Region.{RegionState}
use Rattle.region_step.specs.Start.{StartLists}
use Rattle.region_step.proofs.GridStates.{grid_state-number, grid_state-step}
use Rattle.run_trials.specs.Rounds.{AllAt, AllTold, IsAt, IsTold}

-- one region

pub grid_state-at : (net : Network) (chart : ChartLists) (start : StartLists) (every r t : ℕ) (state : RegionState) → state ≡ grid_state net chart start every r t →
    HasRowsInBounds net chart state → IsAt net chart r t state
grid_state-at net chart start every r t state is bounds = record {
  number = ap (λ s. s.number) is ∙ grid_state-number net chart start every r t;
  step = ap (λ s. s.step) is ∙ grid_state-step net chart start every r t;
  bounds = bounds;
}

pub advanced-at : (net : Network) (chart : ChartLists) (old new : RegionState) → new ≡ advanced net chart old → HasRowsInBounds net chart new →
    IsAt net chart old.number (old.step + 1) new
unfolding advanced
advanced-at net chart old new is bounds = record { number = ap (λ s. s.number) is; step = ap (λ s. s.step) is; bounds = bounds }

pub put-at : (net : Network) (chart : ChartLists) (q t : ℕ) (old new : RegionState) (put : List (Option ℕ)) → IsAt net chart q t old → new ≡ record old { put = put } → IsAt net chart q t new
put-at net chart q t old new put at is =
    subst (IsAt net chart q t) (sym is) record { number = at.number; step = at.step; bounds = record { each = at.bounds.each } }

-- a border cell holds what is in bounds
pub border-in_bounds : (net : Network) (chart : ChartLists) (state : RegionState) (other : Halo) (r n : ℕ) → IsChart chart → r < region_count chart.cut →
    Contains (list_at chart.halo r) other → state.number ≡ other.region → HasRowsInBounds net chart state →
    ((p : ℕ) → p < length (list_at chart.cells state.number) → slice_index (list_at chart.cells state.number) p ≡ slice_index (list_at chart.border state.number) other.place →
    n ≡ occupancy state.rows p) → IsHeldInBounds net state.step other.cell n
border-in_bounds net chart state other r n sound there listed is bounds held =
    let met = (sound.regions r there).met other listed in
    let border : List ℕ = list_at chart.border state.number in
    let cells : List ℕ = list_at chart.cells state.number in
    let one : state.number < region_count chart.cut = subst (λ q. q < region_count chart.cut) (sym is) ((sound.regions r there).others other.region met.0).0 in
    let within : other.place < length border = subst (λ q. other.place < length (list_at chart.border q)) (sym is) met.2 in
    let cell : slice_index border other.place ≡ other.cell = ap (λ q. slice_index (list_at chart.border q) other.place) is ∙ met.3 in
    let has : Contains cells (slice_index border other.place) = (sound.regions state.number one).inside (slice_index border other.place) (Contains-get_or border other.place 0 within) in
    let same : slice_index cells has.0 ≡ slice_index border other.place = get_or_default cells has.0 0 (slice_index border other.place) has.1 ∙ has.2 in
    subst (λ i. IsHeldInBounds net state.step i n) (same ∙ cell)
    (subst (λ m. IsHeldInBounds net state.step (slice_index cells has.0) m) (sym (held has.0 has.1 same)) (bounds.each has.0 has.1).held)

-- what is told of its halo, cell after cell

pub told-more : (net : Network) (chart : ChartLists) (j n : ℕ) (old new : RegionState) → IsTold net chart j old → j < length old.put →
    IsHeldInBounds net old.step (slice_index (halo_cells chart old.number) j) n → new ≡ record old { put = slice_set old.put j (Some n) } → IsTold net chart (j + 1) new
told-more net chart j n old new told within held is = subst (IsTold net chart (j + 1)) (sym is) record {
  each = λ k before. elim (cases_eq k j) [
    | inl last ↦ (
      n,
      ap (λ i. slice_index_or (slice_set old.put j (Some n)) i None) last ∙ get_or-set_same old.put j (Some n) None within,
      subst (λ i. IsHeldInBounds net old.step (slice_index (halo_cells chart old.number) i) n) (sym last) held,
    )
    | inr other ↦
        let here = told.each k (below k before other) in
        (here.0, get_or-set_other old.put j k (Some n) None other ∙ here.1, here.2)
  ];
}
  where
    below : (k : ℕ) → k < j + 1 → k ≢ j → k < j
    below k before other = elim (cases_lt k j) [ inl lower ↦ lower | inr not_lower ↦ absurd (other (omega (arith, before, not_lower))) ]

-- all regions, of which one is written

pub AllAt-set : {X : Type 0} (is_in : X → Type 0) (state : X → RegionState) (net : Network) (chart : ChartLists) (t r : ℕ) (regions : List X) (new : X) →
    AllAt is_in state net chart t regions → r < length regions → is_in new → IsAt net chart r t (state new) → AllAt is_in state net chart t (set regions r new)
AllAt-set is_in state net chart t r regions new all within inside at = record {
  one_each = length-set regions r new ∙ all.one_each;
  each = λ q d here. elim (cases_eq q r) [
    | inl same ↦
        let is : get_or (set regions r new) q d ≡ new = ap (λ i. get_or (set regions r new) i d) same ∙ get_or-set_same regions r new d within in
        (subst is_in (sym is) inside, subst (λ x. IsAt net chart q t (state x)) (sym is) (subst (λ i. IsAt net chart i t (state new)) (sym same) at))
    | inr other ↦
        let is : get_or (set regions r new) q d ≡ get_or regions q d = get_or-set_other regions r q new d other in
        let before = all.each q d (omega (arith, here, length-set regions r new)) in
        (subst is_in (sym is) before.0, subst (λ x. IsAt net chart q t (state x)) (sym is) before.1)
  ];
}

pub AllTold-more : {X : Type 0} (state : X → RegionState) (net : Network) (chart : ChartLists) (r : ℕ) (old new : List X) → AllTold state net chart r old →
    ((q : ℕ) (region : X) → q ≢ r → slice_index_or new q region ≡ slice_index_or old q region) →
    ((region : X) → IsTold net chart (length (list_at chart.halo r)) (state (slice_index_or new r region))) → AllTold state net chart (r + 1) new
AllTold-more state net chart r old new told others here = record {
  each = λ q d before. elim (cases_eq q r) [
    | inl same ↦ subst (λ i. IsTold net chart (length (list_at chart.halo i)) (state (slice_index_or new i d))) (sym same) (here d)
    | inr other ↦
        subst (λ x. IsTold net chart (length (list_at chart.halo q)) (state x)) (sym (others q d other)) (told.each q d (below q before other))
  ];
}
  where
    below : (q : ℕ) → q < r + 1 → q ≢ r → q < r
    below q before other = elim (cases_lt q r) [ inl lower ↦ lower | inr not_lower ↦ absurd (other (omega (arith, before, not_lower))) ]

-- two facts of what a call gave, where it gave something
pub IfOk-both : {T E : Type 0} (r : Result T E) (P Q R : T → Type 0) → ((x : T) → P x → Q x → R x) → IfOk r P → IfOk r Q → IfOk r R
IfOk-both (Ok x) P Q R both p q = both x p q
IfOk-both (Err e) P Q R both p q = tt
