-- What callers may know of a plan's capacities, turning shares, speeds, demands and totals.
use Rattle.std.specs.Prelude.{All, Bool, ◌==◌, not, reverse, if◌then◌else◌}
use Rattle.std.specs.List.{range_with_len}
use Rattle.std.proofs.Common.{◌≡◌, ℕ, suc, true, false, zero-add, ◌+◌, ◌-◌, ◌*◌, ◌<◌, ◌≤◌, List, [], ◌∷◌, length, get_or, inl, inr, arith, refl, ap, sym, subst, ◌∙◌}
use Rattle.std.proofs.Math.Nat.{div-le_of_le-mul, mul_comm, mul-div_left, mul-le-mul, mul-le-mul_left, mul-le-mul_right}
use Rattle.std.proofs.lemmas.Bool.{cases_lt, eqb-true}
use Rattle.std.proofs.lemmas.List.Elements.{All-nil, All-weaker}
use Rattle.std.proofs.lemmas.List.FromFn.{length-range_with_len, get_or-range_with_len}
use Rattle.std.proofs.lemmas.List.Sums.{sum_by-cons, sum_by-le, get_or-le-sum_by}
use Rattle.fixed_flow.specs.Limits.{most_parts}
use Rattle.step_plan.specs.Records.{CellRecords, DemandRecord, PlannedCell, PlanRecords, SpeedRecord, bare_cell, in_range, planned_at, records_at}
use Rattle.step_plan.specs.Sound.{AreSound, IsSoundDemand, IsSoundPlan, most_demands}
use Rattle.step_plan.specs.Capacity.{capacity_at}
use Rattle.step_plan.specs.Last.{last_said}
use Rattle.step_plan.specs.Demand.{demand_at}
use Rattle.step_plan.specs.Total.{demand_from, total_demand}
use Rattle.step_plan.specs.Speeds.{arriving, speed_at}
use Rattle.step_plan.specs.SpeedBounds.{IsSpeed, has_speeds}
use Rattle.step_plan.specs.Turning.{shares_at}
use Rattle.step_plan.proofs.Sums.{sum_by_range_split, sum_by-le-times}
use Rattle.step_plan.proofs.Planned.{records_at-all, records_at-past}
use Rattle.step_plan.proofs.Searches.{All-reverse, find-has}
use Rattle.step_plan.proofs.Totals.{brings, brought, brought_to, demand_from_sum, total_demand_is}

pub capacity_at-le : (plan : PlanRecords) (cell t most : ℕ) → (planned_at plan cell).capacity ≤ most →
    All (λ limit. limit.capacity ≤ most) (records_at plan cell).limits → capacity_at plan cell t ≤ most
unfolding capacity_at
capacity_at-le plan cell t most own limits =
    let small : ℕ → Type 0 = λ capacity. capacity ≤ most in
    find-has small (λ l. l.capacity) (λ l. in_range l.from l.to t) (reverse (records_at plan cell).limits) (planned_at plan cell).capacity
    (All-reverse (λ l. small l.capacity) (records_at plan cell).limits limits) own

-- the shares at a step have what those of the diverge and of all records have
pub shares_at-all : (P : ℕ × ℕ → Type 0) (plan : PlanRecords) (cell t : ℕ) (own : ℕ × ℕ) → P own →
    All (λ planned. All (λ turn. P (turn.b1, turn.b2)) planned.records.turns) plan.cells → P (shares_at plan cell t own)
unfolding shares_at
shares_at-all P plan cell t own fallback turns =
    let each = records_at-all (λ records. All (λ turn. P (turn.b1, turn.b2)) records.turns) plan cell turns (All-nil _) in
    find-has P (λ u. (u.b1, u.b2)) (λ u. in_range u.from u.to t) (reverse (records_at plan cell).turns) own
    (All-reverse (λ u. P (u.b1, u.b2)) (records_at plan cell).turns each) fallback

-- the road's own speed
pub IsSpeed-own : IsSpeed (1, 1)
IsSpeed-own = record { positive = omega arith; ratio = omega arith; small = omega arith }

-- the speed at a step has what the road's own and those of all records have
pub speed_at-all : (P : ℕ × ℕ → Type 0) (plan : PlanRecords) (cell t : ℕ) → P (1, 1) →
    All (λ planned. All (λ speed. P (speed.num, speed.den)) planned.records.speeds) plan.cells → P (speed_at plan cell t)
unfolding speed_at
speed_at-all P plan cell t fallback speeds =
    let each = records_at-all (λ records. All (λ speed. P (speed.num, speed.den)) records.speeds) plan cell speeds (All-nil _) in
    find-has P (λ s. (s.num, s.den)) (λ s. in_range s.from s.to t) (reverse (records_at plan cell).speeds) (1, 1)
    (All-reverse (λ s. P (s.num, s.den)) (records_at plan cell).speeds each) fallback

-- a cell without speed records has the road's own speed
pub speed_at-none : (plan : PlanRecords) (cell t : ℕ) → has_speeds plan cell ≡ false → speed_at plan cell t ≡ (1, 1)
unfolding speed_at has_speeds
speed_at-none plan cell t none = by (records_at plan cell).speeds (eqb-true (length (records_at plan cell).speeds) 0 (is_zero (length (records_at plan cell).speeds == 0) none))
  where
    is_zero : (b : Bool) → not b ≡ false → b ≡ true
    is_zero true e = refl
    is_zero false e = cc e

    by : (speeds : List SpeedRecord) → length speeds ≡ 0 → ◌≡◌ {A = ℕ × ℕ} (last_said (λ speed. in_range speed.from speed.to t) (λ speed. (speed.num, speed.den)) speeds (1, 1)) (1, 1)
    by [] e = refl
    by (speed ∷ speeds) e = absurd (omega (arith, e))

pub arriving-own : (n : ℕ) → arriving (1, 1) n ≡ n
arriving-own n = mul-div_left n (omega arith)

-- no more arrive than there are
pub arriving-le : (speed : ℕ × ℕ) (n : ℕ) → IsSpeed speed → arriving speed n ≤ n
arriving-le speed n fits =
    div-le_of_le-mul speed.1 (omega (arith, mul_comm n speed.1, mul-le-mul_left n fits.ratio))

brings-le : (d : DemandRecord) (t : ℕ) → brings d t ≤ d.amount
brings-le d t =
    elim (in_range d.from d.to t) as (λ b. (if b then d.amount else 0) ≤ d.amount) [ true ↦ omega arith | false ↦ omega arith ]

-- the demand records of each cell have amounts within bounds
amounts-le : (plan : PlanRecords) (cell : ℕ) → IsSoundPlan plan → All (λ d. d.amount ≤ most_parts) (records_at plan cell).demands
amounts-le plan cell sound = elim (cases_lt cell (length plan.cells)) [
  | inl there ↦
      All-weaker IsSoundDemand (λ d. d.amount ≤ most_parts) (λ d fits. fits.amount) (records_at plan cell).demands (sound.records cell (bare_cell 0) there).demands
  | inr past ↦
      subst (λ (own : CellRecords). All (λ d. d.amount ≤ most_parts) own.demands) (sym (records_at-past plan cell past)) (All-nil (λ d. d.amount ≤ most_parts))
]

-- a cell has at most all the demand records
demands-le : (plan : PlanRecords) (cell : ℕ) → IsSoundPlan plan → length (records_at plan cell).demands ≤ most_demands
demands-le plan cell sound = elim (cases_lt cell (length plan.cells)) [
  | inl there ↦
      omega (arith, sound.few_demands, get_or-le-sum_by (λ (c : PlannedCell). length c.records.demands) plan.cells cell (bare_cell 0) there)
  | inr past ↦ omega (arith, ap (λ (own : CellRecords). length own.demands) (records_at-past plan cell past))
]

pub demand_at-le : (plan : PlanRecords) (cell t : ℕ) → IsSoundPlan plan → demand_at plan cell t ≤ most_demands * most_parts
unfolding demand_at
demand_at-le plan cell t sound =
    let demands = (records_at plan cell).demands in
    omega (
      arith,
      demands-le plan cell sound,
      sum_by-le (λ d. brings d t) most_parts demands (
          All-weaker (λ d. d.amount ≤ most_parts) (λ d. brings d t ≤ most_parts) (λ d low. omega (arith, brings-le d t, low))
          demands (amounts-le plan cell sound)
          ),
    )

pub demand_from-le : (plan : PlanRecords) (cell t end : ℕ) → IsSoundPlan plan → demand_from plan cell t end ≤ most_demands * (most_parts * end)
unfolding demand_from
demand_from-le plan cell t end sound =
    let steps : List ℕ = range_with_len t (end - t) in
    omega (
      arith,
      length-range_with_len t (end - t),
      sum_by-le (demand_at plan cell) (most_demands * most_parts) steps (λ k d within. demand_at-le plan cell (get_or steps k d) sound),
    )

pub demand_from_none : (plan : PlanRecords) (cell t : ℕ) → demand_from plan cell t t ≡ 0
unfolding demand_from
demand_from_none plan cell t = let none : t - t ≡ 0 = omega arith in rw none refl

pub demand_from_more : (plan : PlanRecords) (cell t end : ℕ) → t < end →
    demand_from plan cell t end ≡ demand_at plan cell t + demand_from plan cell (t + 1) end
unfolding demand_from
demand_from_more plan cell t end before =
    let more : end - t ≡ suc (end - (t + 1)) = omega arith in
    rw more (sum_by-cons (demand_at plan cell) t (range_with_len (t + 1) (end - (t + 1))))

pub demand_from_split : (plan : PlanRecords) (cell t end : ℕ) → t ≤ end →
    demand_from plan cell 0 t + demand_from plan cell t end ≡ demand_from plan cell 0 end
unfolding demand_from
demand_from_split plan cell t end within =
    let first : t - 0 ≡ t = omega arith in
    let whole : end - 0 ≡ t + (end - t) = omega arith in
    rw (first, whole) (rw zero-add at (sum_by_range_split (demand_at plan cell) 0 t (end - t)))

-- one more step at the end
pub demand_from_next : (plan : PlanRecords) (cell t : ℕ) →
    demand_from plan cell 0 (t + 1) ≡ demand_from plan cell 0 t + demand_at plan cell t
demand_from_next plan cell t = omega (
  arith,
  demand_from_split plan cell t (t + 1) (omega arith),
  demand_from_more plan cell t (t + 1) (omega arith),
  demand_from_none plan cell (t + 1),
)

pub demand_from-le-total_demand : (plan : PlanRecords) (cell steps : ℕ) → cell < length plan.cells →
    demand_from plan cell 0 steps ≤ total_demand plan steps
unfolding total_demand
demand_from-le-total_demand plan cell steps has =
    let cells : ℕ = length plan.cells in
    let at_cell : get_or (range_with_len 0 cells) cell 0 ≡ cell =
    get_or-range_with_len 0 cells cell 0 has ∙ zero-add cell in
    rw at_cell at (
    get_or-le-sum_by (λ c. demand_from plan c 0 steps) (range_with_len 0 cells) cell 0
    (omega (arith, length-range_with_len 0 cells))
    )

-- what enters a cell in the steps below `steps`, by the number of its records
brought_to-le : (steps : ℕ) (cell : PlannedCell) → AreSound cell.records → brought_to steps cell ≤ length cell.records.demands * (most_parts * steps)
brought_to-le steps cell sound =
    let each : (d : DemandRecord) → IsSoundDemand d → brought 0 steps d ≤ most_parts * steps =
    λ d fits. mul-le-mul fits.amount (omega arith) in
    omega (
      arith,
      demand_from_sum cell 0 steps,
      sum_by-le (brought 0 steps) (most_parts * steps) cell.records.demands (
          All-weaker IsSoundDemand (λ d. brought 0 steps d ≤ most_parts * steps) each cell.records.demands sound.demands
          ),
    )

pub total_demand-le : (plan : PlanRecords) (steps : ℕ) → IsSoundPlan plan → total_demand plan steps ≤ most_demands * (most_parts * steps)
total_demand-le plan steps sound = omega (
  arith,
  total_demand_is plan steps,
  sum_by-le-times (brought_to steps) (λ c. length c.records.demands) (most_parts * steps) plan.cells (λ k d there.
      brought_to-le steps (get_or plan.cells k d) (sound.records k d there)),
  mul-le-mul_right (most_parts * steps) sound.few_demands,
)
