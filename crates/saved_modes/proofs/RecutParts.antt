-- The parts of a run, and their cuttings.
use Rattle.std.specs.Prelude.{All, replicate, slice_index}
use Rattle.std.specs.Option.{IsSome}
use Rattle.std.proofs.Common.{◌≡◌, inl, inr, ℕ, suc, ◌+◌, ◌*◌, ◌/◌, ◌<◌, ◌≤◌, List, ◌∷◌, Option, Some, None, length, refl, subst, sym, ap, ◌∙◌, arith}
use Rattle.std.proofs.Math.Nat.{div-le_self, div-mul-le_self, mul-div_cancel_left}
use Rattle.std.proofs.lemmas.Bool.{cases_eq}
use Rattle.std.proofs.lemmas.List.{get_or-replicate}
use Rattle.std.proofs.lemmas.List.FromFn.{get_or-map-range_with_len, length-map-range_with_len}
use Rattle.std.proofs.lemmas.Nat.{le-div}
use Rattle.network_file.specs.Network.{Network}
use Rattle.region_cut.specs.Chart.{list_at}
use Rattle.region_cut.specs.Cuttings.{region_count}
use Rattle.region_cut.specs.Layout.{LayoutValue}
use Rattle.region_cut.proofs.EvenCutting.{length-even_cutting}
use Rattle.region_step.specs.Regions.{AreAt, AreAtLast, RegionsValue}
use Rattle.region_step.specs.Setup.{SetupValue, setup_of}
use Rattle.region_step.specs.Start.{StartLists}
use Rattle.region_step.specs.Starting.{IsTrueStart}
use Rattle.snapshot.specs.Shots.{goal_of}
use Rattle.saved_run.specs.EvenStart.{IsTrueBelow}
use Rattle.saved_modes.specs.Recutting.{IsLastPart, IsPart, part_cutting, part_cuttings, step_of}
use Rattle.network_run.specs.Telling.{Telling}
use Rattle.network_run.specs.ToldParts.{HasToldPart}

-- regions that all start at one step start below a later one
pub start-below : (start : StartLists) (cut : List ℕ) (from goal : ℕ) → start.steps ≡ replicate (region_count cut) from → from < goal → (r : ℕ) → r < region_count cut → slice_index start.steps r < goal
start-below start cut from goal steps before r within = omega (arith, ap (λ list. slice_index list r) steps, get_or-replicate (region_count cut) r from 0 within, before)

-- those that are opened so, and all come to a step past the first, are the regions of a part
pub part-of : (layout : LayoutValue) (start : StartLists) (from goal : ℕ) (regions : RegionsValue) → start.steps ≡ replicate (region_count layout.chart.cut) from → from < goal →
    IsTrueStart layout.net layout.chart.cut start → regions.setup ≡ setup_of layout start 0 → AreAt regions goal → step_of (Some regions) ≡ goal → IsPart layout.net regions
part-of layout start from goal regions even later true_start is at come =
    let begun : IsTrueBelow layout.net layout.chart.cut start goal = record {
      true_start = true_start;
      below = λ some r within. start-below start layout.chart.cut from goal even later r within;
    } in
    record {
      network = ap (λ (s : SetupValue). s.net) is;
      unrecorded = ap (λ (s : SetupValue). s.every) is;
      even = subst (AreAt regions) (sym come) at;
      from = rw (come, is) begun;
    }

-- where the last part came past step 0 there is one
pub some-part : (last : Option RegionsValue) → 1 ≤ step_of last → IsSome last
some-part None later = absurd (omega (arith, later))
some-part (Some regions) later = refl

pub last-part : (net : Network) (last : Option RegionsValue) (regions : RegionsValue) → last ≡ Some regions → IsLastPart net last → IsPart net regions
last-part net last regions some is = subst (IsLastPart net) some is

-- its regions are at the last step where it came there
pub part-ended : (net : Network) (last : Option RegionsValue) (regions : RegionsValue) → last ≡ Some regions → IsPart net regions → step_of last ≡ net.steps → AreAtLast regions
part-ended net last regions some is come = subst (AreAt regions) (ap step_of (sym some) ∙ come ∙ ap (λ n. n.steps) (sym is.network)) is.even

-- each has a region for each cell
abbrev pub AreOneEach : (cells : ℕ) → List (List ℕ) → Type 0
AreOneEach cells cuts = All (λ cut. length cut ≡ cells) cuts

-- as those of all parts have
pub cuttings-one_each : (cells regions parts : ℕ) → AreOneEach cells (part_cuttings cells regions parts)
cuttings-one_each cells regions parts k d within =
    let there : k < parts = omega (arith, within, length-map-range_with_len (part_cutting cells regions) 1 parts) in
    ap length (get_or-map-range_with_len (part_cutting cells regions) 1 parts k (1 + k) d there (omega arith)) ∙ length-even_cutting cells _

-- and as those behind the first have
pub others-one_each : (cells : ℕ) (cuts : List (List ℕ)) (cut : List ℕ) (others : List (List ℕ)) → cuts ≡ cut ∷ others → AreOneEach cells cuts → AreOneEach cells others
others-one_each cells cuts cut others is all = λ k d within. subst (AreOneEach cells) is all (suc k) d (omega (arith, within))

-- the first goal is step 0, the last one the last step, and no goal lies before the one before it
pub goal-first : (steps parts : ℕ) → goal_of steps parts 0 ≡ 0
goal-first steps parts = let none : 0 * steps ≡ 0 = omega arith in omega (arith, none, div-le_self (0 * steps) parts)

pub goal-last : (steps parts : ℕ) → 1 ≤ parts → goal_of steps parts parts ≡ steps
goal-last steps parts some = mul-div_cancel_left steps some

pub come-last : (steps parts i : ℕ) (last : Option RegionsValue) → 1 ≤ parts → i ≡ parts → step_of last ≡ goal_of steps parts i → step_of last ≡ steps
come-last steps parts i last some all come = come ∙ ap (λ n. goal_of steps parts n) all ∙ goal-last steps parts some

pub goals-rise : (steps parts i : ℕ) → 1 ≤ parts → goal_of steps parts i ≤ goal_of steps parts (i + 1)
goals-rise steps parts i some =
    let more : (i + 1) * steps ≡ i * steps + steps = grind arith in
    le-div (i * steps / parts) ((i + 1) * steps) parts (omega (arith, some)) (omega (arith, more, div-mul-le_self (i * steps) parts))

-- what was told of the parts before part i
abbrev pub HasToldFirst : (held freed : Telling) → Network → (parts : ℕ) → (cuts : List (List ℕ)) → (i : ℕ) → Type 0
HasToldFirst held freed net parts cuts i =
    (k : ℕ) → k < i → goal_of net.steps parts k < goal_of net.steps parts (k + 1) → HasToldPart held freed net (list_at cuts k) (goal_of net.steps parts k) (goal_of net.steps parts (k + 1))

-- and of one part more
pub told-next : (held freed : Telling) (net : Network) (parts : ℕ) (cuts : List (List ℕ)) (i : ℕ) (cut : List ℕ) (from goal : ℕ) → list_at cuts i ≡ cut → from ≡ goal_of net.steps parts i →
    goal ≡ goal_of net.steps parts (i + 1) → HasToldFirst held freed net parts cuts i → (from < goal → HasToldPart held freed net cut from goal) → HasToldFirst held freed net parts cuts (i + 1)
told-next held freed net parts cuts i cut from goal own begins ends before told = λ k within later.
    elim (cases_eq k i) [
      | inl last ↦
          let here : goal_of net.steps parts i < goal_of net.steps parts (i + 1) = subst (λ n. goal_of net.steps parts n < goal_of net.steps parts (n + 1)) last later in
          rw (last, own, ← begins, ← ends) (told (omega (arith, begins, ends, here)))
      | inr other ↦ before k (omega (arith, within, other)) later
    ]

-- the cuttings behind the first
pub left-next : (cuts all others : List (List ℕ)) (cut : List ℕ) (i : ℕ) → ((j : ℕ) → list_at cuts j ≡ list_at all (i + j)) → cuts ≡ cut ∷ others →
    (list_at all i ≡ cut) × ((j : ℕ) → list_at others j ≡ list_at all (i + 1 + j))
left-next cuts all others cut i are is =
    let here : i + 0 ≡ i = omega arith in (
      ap (list_at all) (sym here) ∙ sym (are 0) ∙ ap (λ list. list_at list 0) is,
      λ j. let there : i + suc j ≡ i + 1 + j = omega arith in ap (λ list. list_at list (suc j)) (sym is) ∙ are (suc j) ∙ ap (list_at all) there,
    )
