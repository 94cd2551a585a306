-- The wait of a cell, part by part: a part waits at the steps by which it has come, but for those by whose next one it has gone.
use Rattle.std.specs.Prelude.{None, Option, Some, cond, nat_lt, pos}
use Rattle.std.specs.List.{position_or_len, range_with_len}
use Rattle.std.proofs.Common.{◌≡◌, inl, inr, ℕ, Bool, zero, suc, add-one, true, min, ◌+◌, ◌-◌, ◌<◌, ◌≤◌, List, length, get_or, slice_index, arith}
use Rattle.std.proofs.lemmas.Bool.{cases_Bool, cases_lt, ltb-false, ltb-true}
use Rattle.std.proofs.lemmas.Int.{ints}
use Rattle.std.proofs.lemmas.List.Sums.{fails_before_first, passes_at_first}
use Rattle.step_plan.proofs.Sums.{sum_by-zero, sum_by_splits}
use Rattle.network_file.specs.Network.{Network}
use Rattle.flow_ledger.proofs.StateRows.{come-next, gone-next}
use Rattle.traffic_laws.specs.Area.{area_between, area_under}
use Rattle.traffic_laws.specs.Curves.{AreCurvesOf, DepartsAfterArriving, arrived, departed}
use Rattle.traffic_laws.specs.Times.{IsEarlierBy, enters_at, leaves_at}
use Rattle.traffic_laws.specs.Waits.{IsWaitOfParts, steps_waited, wait_of_parts}
use Rattle.traffic_laws.proofs.Areas.{area_under-more, never-cross}
use Rattle.traffic_laws.proofs.Travels.{takes-a-step}

-- 1 where part k is one of the first so many, and else 0
abbrev is_among : (parts k : ℕ) → ℕ
is_among parts k = min 1 (parts - k)

-- of the parts below n so many are
among_in_all : (parts n : ℕ) → area_under (is_among parts) n ≡ min parts n
among_in_all parts zero = omega arith
among_in_all parts (suc n) = omega (arith, rw add-one at (area_under-more (is_among parts) n), among_in_all parts n)

-- the steps of a curve at which part k is below it
abbrev steps_below : (curve : ℕ → ℕ) → (steps k : ℕ) → ℕ
steps_below curve steps k = area_under (λ s. is_among (curve s) k) steps

steps_below-more : (curve : ℕ → ℕ) (steps k : ℕ) → steps_below curve (suc steps) k ≡ steps_below curve steps k + is_among (curve steps) k
steps_below-more curve steps k = rw add-one at (area_under-more (λ s. is_among (curve s) k) steps)

-- the area under a curve, part by part
part_by_part : (curve : ℕ → ℕ) (n steps : ℕ) → ((s : ℕ) → s < steps → curve s ≤ n) →
    area_under (steps_below curve steps) n ≡ area_under curve steps
part_by_part curve n zero within = sum_by-zero (steps_below curve 0) (range_with_len 0 n) (λ k d has. omega arith)
part_by_part curve n (suc steps) within =
    omega (
      arith,
      sum_by_splits (steps_below curve (suc steps)) (steps_below curve steps) (is_among (curve steps)) (range_with_len 0 n)
          (steps_below-more curve steps),
      among_in_all (curve steps) n,
      rw add-one at (area_under-more curve steps),
      part_by_part curve n steps (λ s early. within s (omega arith)),
      within steps (omega arith),
    )

-- of a curve that passes k at step `first` and stays past it
steps_since : (curve : ℕ → ℕ) (k first steps : ℕ) → ((s : ℕ) → s < steps → s < first → curve s ≤ k) →
    ((s : ℕ) → s < steps → first ≤ s → k < curve s) → steps_below curve steps k ≡ steps - first
steps_since curve k first zero before after = omega arith
steps_since curve k first (suc steps) before after =
    let more = steps_below-more curve steps k in
    let earlier = steps_since curve k first steps (λ s within. before s (omega arith)) (λ s within. after s (omega arith)) in
    elim (cases_lt steps first) [
      | inl early ↦ omega (arith, more, earlier, before steps (omega arith) early)
      | inr late ↦ omega (arith, more, earlier, after steps (omega arith) late)
    ]

-- by the curves of a cell

-- the first step by which part k has come, or has gone, or else how many steps the curve has
abbrev first_come : (first : ℕ) → (come : List ℕ) → (k : ℕ) → ℕ
first_come first come k = position_or_len (λ parts. nat_lt k (first + parts)) come

abbrev first_gone : (gone : List ℕ) → (k : ℕ) → ℕ
first_gone gone k = position_or_len (λ parts. nat_lt k parts) gone

-- what such curves keep
record AreCellCurves (first : ℕ) (come gone : List ℕ) : Type 0 where
  pub same_steps : length gone ≡ length come
  pub come_rises : (u v : ℕ) → u ≤ v → v < length come → slice_index come u ≤ slice_index come v
  pub gone_rises : (u v : ℕ) → u ≤ v → v < length gone → slice_index gone u ≤ slice_index gone v
  pub later : DepartsAfterArriving first come gone
  pub takes_a_step : (k : ℕ) → IsEarlierBy 1 (enters_at first come k) (leaves_at gone k)

steps_come : (first : ℕ) (come gone : List ℕ) (k : ℕ) → AreCellCurves first come gone →
    steps_below (λ s. first + slice_index come s) (length come - 1) k ≡ length come - 1 - first_come first come k
steps_come first come gone k curves =
    let p : ℕ → Bool = λ parts. nat_lt k (first + parts) in
    let place : ℕ = first_come first come k in
    steps_since (λ s. first + slice_index come s) k place (length come - 1)
    (λ s within early. omega (arith, ltb-false k (first + get_or come s 0) (fails_before_first p come s 0 early)))
    (λ s within late.
    let passes : p (get_or come place 0) ≡ true = passes_at_first p come 0 (omega arith) in
    omega (arith, ltb-true k (first + get_or come place 0) passes, curves.come_rises place s late (omega arith)))

steps_gone : (first : ℕ) (come gone : List ℕ) (k : ℕ) → AreCellCurves first come gone →
    steps_below (λ s. slice_index gone (s + 1)) (length come - 1) k ≡ length come - 1 - (first_gone gone k - 1)
steps_gone first come gone k curves =
    let p : ℕ → Bool = λ parts. nat_lt k parts in
    let place : ℕ = first_gone gone k in
    steps_since (λ s. slice_index gone (s + 1)) k (place - 1) (length come - 1)
    (λ s within early. ltb-false k (get_or gone (s + 1) 0) (fails_before_first p gone (s + 1) 0 (omega arith)))
    (λ s within late.
    let long = curves.same_steps in
    let passes : p (get_or gone place 0) ≡ true = passes_at_first p gone 0 (omega (arith, long)) in
    omega (arith, ltb-true k (get_or gone place 0) passes, curves.gone_rises place (s + 1) (omega arith) (omega (arith, long))))

-- what is found of a first place
found : (place long : ℕ) → Option ℕ
found place long = cond (nat_lt place long) (Some place) None

-- a part waits from the step by which it has come up to the one before that by which it has gone
waits_between : (came went long : ℕ) → IsEarlierBy 1 (found came long) (found went long) →
    steps_waited (long - 1) (found came long) (found went long) + (long - 1 - (went - 1)) ≡ long - 1 - came
unfolding found
waits_between came went long earlier = elim (cases_Bool (nat_lt came long)) [
  | inl has_come ↦ elim (cases_Bool (nat_lt went long)) [
    | inl has_gone ↦
        let apart : came + 1 ≤ went = rw (has_come, has_gone) at earlier in
        rw (has_come, has_gone) (omega (arith, apart, ltb-true came long has_come, ltb-true went long has_gone))
    | inr still ↦ rw (has_come, still) (omega (arith, ltb-true came long has_come, ltb-false went long still))
  ]
  | inr not_yet ↦ elim (cases_Bool (nat_lt went long)) [
    | inl has_gone ↦ absurd (rw (not_yet, has_gone) at earlier)
    | inr still ↦ rw not_yet (omega (arith, ltb-false came long not_yet, ltb-false went long still))
  ]
]

part_waits : (first : ℕ) (come gone : List ℕ) (k : ℕ) → AreCellCurves first come gone →
    steps_below (λ s. first + slice_index come s) (length come - 1) k ≡
    steps_waited (length come - 1) (enters_at first come k) (leaves_at gone k) + steps_below (λ s. slice_index gone (s + 1)) (length come - 1) k
unfolding found
part_waits first come gone k curves =
    let long : length gone ≡ length come = curves.same_steps in
    let earlier : IsEarlierBy 1 (found (first_come first come k) (length come)) (found (first_gone gone k) (length come)) =
    rw long at (curves.takes_a_step k) in
    let waits = waits_between (first_come first come k) (first_gone gone k) (length come) earlier in
    rw long (omega (arith, waits, steps_come first come gone k curves, steps_gone first come gone k curves))

by_parts : (first : ℕ) (come gone : List ℕ) → AreCellCurves first come gone → area_between first come gone ≡ pos (wait_of_parts first come gone)
unfolding area_between wait_of_parts
by_parts first come gone curves =
    let last : ℕ = length come - 1 in
    let parts : ℕ = first + slice_index come last in
    let arrived_by : ℕ → ℕ = λ s. first + slice_index come s in
    let departed_after : ℕ → ℕ = λ s. slice_index gone (s + 1) in
    let waits : ℕ → ℕ = λ k. steps_waited last (enters_at first come k) (leaves_at gone k) in
    let came : (s : ℕ) → s < last → arrived_by s ≤ parts = λ s early. omega (arith, curves.come_rises s last (omega arith) (omega arith)) in
    let went : (s : ℕ) → s < last → departed_after s ≤ parts = λ s early. omega (arith, came s early, curves.later s (omega (arith, curves.same_steps))) in
    omega (
      arith,
      ints,
      part_by_part arrived_by parts last came,
      part_by_part departed_after parts last went,
      sum_by_splits (steps_below arrived_by last) waits (steps_below departed_after last) (range_with_len 0 parts)
          (λ k. part_waits first come gone k curves),
    )

-- the curves of a cell are such curves

no_lower : (curve : ℕ → ℕ) (u steps : ℕ) → ((s : ℕ) → curve s ≤ curve (s + 1)) → curve u ≤ curve (u + steps)
no_lower curve u zero rises = let same : u + 0 ≡ u = omega arith in rw same (omega arith)
no_lower curve u (suc steps) rises =
    let next : u + suc steps ≡ (u + steps) + 1 = omega arith in
    rw next (omega (arith, rises (u + steps), no_lower curve u steps rises))

cell_curves : (first : ℕ) (come gone : List ℕ) (net : Network) (i : ℕ) → AreCurvesOf net i first come gone → AreCellCurves first come gone
cell_curves first come gone net i curves = record {
  same_steps = curves.same_steps;
  come_rises = λ u v early within.
      let last : u + (v - u) ≡ v = omega arith in
      let later = no_lower (arrived net i) u (v - u) (λ s. omega (arith, come-next net s i curves.has_cell)) in
      omega (arith, curves.arrivals u (omega arith), curves.arrivals v within, rw last at later);
  gone_rises = λ u v early within.
      let last : u + (v - u) ≡ v = omega arith in
      let later = no_lower (departed net i) u (v - u) (λ s. omega (arith, gone-next net s i curves.has_cell)) in
      omega (arith, curves.departures u (omega arith), curves.departures v within, rw last at later);
  later = never-cross first come gone net i curves;
  takes_a_step = λ k. takes-a-step first come gone k net i curves;
}

pub wait-of-parts : (first : ℕ) (come gone : List ℕ) → IsWaitOfParts first come gone (area_between first come gone)
wait-of-parts first come gone net i curves = by_parts first come gone (cell_curves first come gone net i curves)
