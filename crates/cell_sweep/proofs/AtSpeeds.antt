-- Cells that send at their speeds.
use Rattle.std.specs.Prelude.{◌&&◌, ◌||◌, ◌*◌, ◌/◌, Bool, min}
use Rattle.std.proofs.Common.{◌≡◌, ℕ, ◌+◌, ◌-◌, ◌<◌, true, false, inl, inr, List, [], length, refl, sym, ap, ◌∙◌, zero-add, arith, ◌≤◌}
use Rattle.std.proofs.lemmas.Bool.{cases_Bool, cases_eq, cases_lt}
use Rattle.std.proofs.lemmas.List.{get_or_past}
use Rattle.std.proofs.lemmas.List.FromFn.{get_or-map-range_with_len, length-map-range_with_len}
use Rattle.step_plan.specs.Speeds.{arriving}
use Rattle.step_plan.proofs.Laws.{arriving-own}
use Rattle.cell_sweep.specs.CellStates.{carried, link_out, no_state, cell_state_at}
use Rattle.cell_sweep.specs.SpeedZones.{end_before, is_all_slow_four, is_slow_four, zone_at}
use Rattle.connector_flow.specs.Space.{let_in}
use Rattle.cell_sweep.specs.Speeds.{CanSweep, at_speeds, slowed_state, ratio_at}
use Rattle.cell_sweep.specs.declared.speed_zone.SpeedZone.{SpeedZone}
use Rattle.cell_sweep.specs.Sweeping.{AreFew, IsFree}
use Rattle.cell_sweep.specs.declared.cell_state.CellState.{CellState}
use Rattle.cell_sweep.proofs.Neighbours.{link_out-carried, cell_state_at-past}

pub length-at_speeds : (states : List CellState) (speeds : List (ℕ × ℕ)) → length (at_speeds states speeds) ≡ length states
unfolding at_speeds
length-at_speeds states speeds = length-map-range_with_len (λ p. slowed_state (cell_state_at states p) (ratio_at speeds p)) 0 (length states)

pub at_speeds-at : (states : List CellState) (speeds : List (ℕ × ℕ)) (p : ℕ) → p < length states →
    cell_state_at (at_speeds states speeds) p ≡ slowed_state (cell_state_at states p) (ratio_at speeds p)
unfolding at_speeds
at_speeds-at states speeds p within =
    get_or-map-range_with_len (λ p. slowed_state (cell_state_at states p) (ratio_at speeds p)) 0 (length states) p p no_state within (zero-add p)

-- what a cell lets in stays
next-at_speeds : (states : List CellState) (speeds : List (ℕ × ℕ)) (p : ℕ) (state : CellState) →
    carried state (cell_state_at (at_speeds states speeds) p) ≡ carried state (cell_state_at states p)
next-at_speeds states speeds p state = elim (cases_lt p (length states)) [
  | inl within ↦ ap (carried state) (at_speeds-at states speeds p within)
  | inr past ↦
      ap (carried state) (cell_state_at-past (at_speeds states speeds) p (omega (arith, past, length-at_speeds states speeds)) ∙ sym (cell_state_at-past states p (omega (arith, past))))
]

-- what goes out of a cell at its speed
pub link_out-at_speeds : (states : List CellState) (speeds : List (ℕ × ℕ)) (p : ℕ) → p < length states →
    link_out (at_speeds states speeds) p ≡ carried (slowed_state (cell_state_at states p) (ratio_at speeds p)) (cell_state_at states (p + 1))
link_out-at_speeds states speeds p within =
    link_out-carried (at_speeds states speeds) p ∙ next-at_speeds states speeds (p + 1) (cell_state_at (at_speeds states speeds) p)
    ∙ ap (λ one. carried one (cell_state_at states (p + 1))) (at_speeds-at states speeds p within)

-- at the speed of its road all that it holds comes to its end
pub carried-free : (state next : CellState) (speed : ℕ × ℕ) → speed ≡ (1, 1) → carried (slowed_state state speed) next ≡ carried state next
carried-free state next speed free =
    let all : arriving speed state.n ≡ state.n = ap (λ one. arriving one state.n) free ∙ arriving-own state.n in
    let same : min (min state.most (arriving speed state.n)) state.n ≡ min state.most state.n = omega (arith, all) in
    ap (λ sent. min sent (let_in next.space next.n)) same

-- what is asked of a sweep, of its zones

none-of : (a b c d : Bool) → (a || b || c || d) ≡ false → (a ≡ false) × (b ≡ false) × (c ≡ false) × (d ≡ false)
none-of true b c d none = cc
none-of false true c d none = cc
none-of false false true d none = cc
none-of false false false true none = cc
none-of false false false false none = (refl, refl, refl, refl)

-- a place in a four that isn't slow isn't
free-four : (slow : ℕ → Bool) (p : ℕ) → is_slow_four slow (p / 4) ≡ false → slow p ≡ false
free-four slow p free =
    let m : ℕ = p / 4 in
    let none = none-of (slow (4 * m)) (slow (4 * m + 1)) (slow (4 * m + 2)) (slow (4 * m + 3)) free in
    elim (cases_eq p (4 * m)) [
      | inl first ↦ rw first none.0
      | inr a ↦ elim (cases_eq p (4 * m + 1)) [
        | inl second ↦ rw second none.1
        | inr b ↦ elim (cases_eq p (4 * m + 2)) [
          | inl third ↦ rw third none.2
          | inr c ↦ let fourth : p ≡ 4 * m + 3 = omega (arith, a, b, c) in rw fourth none.3
        ]
      ]
    ]

pub free-none : (from to : ℕ) → IsFree [] from to
free-none from to p begun before = get_or_past [] p (1, 1) (omega arith)

pub free-before : (states : List CellState) (speeds : List (ℕ × ℕ)) (zones : List SpeedZone) (k : ℕ) → CanSweep states speeds zones → k < length zones →
    IsFree speeds (4 * end_before zones k) (4 * (zone_at zones k).from)
free-before states speeds zones k can within p from before =
    can.free p (omega (arith, before, can.laid.some k within, can.laid.within k within))
    (free-four can.slow p (can.laid.free k (p / 4) within (omega (arith, from)) (omega (arith, before))))

pub free-behind : (states : List CellState) (speeds : List (ℕ × ℕ)) (zones : List SpeedZone) → CanSweep states speeds zones →
    IsFree speeds (4 * end_before zones (length zones)) (4 * ((length states - 1) / 4))
free-behind states speeds zones can p from before =
    can.free p (omega (arith, before)) (free-four can.slow p (can.laid.rest (p / 4) (omega (arith, from)) (omega (arith, before))))

all-of : (a b c d : Bool) → (a && b && c && d) ≡ true → (a ≡ true) × (b ≡ true) × (c ≡ true) × (d ≡ true)
all-of false b c d all = cc
all-of true false c d all = cc
all-of true true false d all = cc
all-of true true true false all = cc
all-of true true true true all = (refl, refl, refl, refl)

-- a place in a four that is all slow is slow
all_slow-four : (slow : ℕ → Bool) (p : ℕ) → is_all_slow_four slow (p / 4) ≡ true → slow p ≡ true
all_slow-four slow p all_slow =
    let m : ℕ = p / 4 in
    let all = all-of (slow (4 * m)) (slow (4 * m + 1)) (slow (4 * m + 2)) (slow (4 * m + 3)) all_slow in
    elim (cases_eq p (4 * m)) [
      | inl first ↦ rw first all.0
      | inr a ↦ elim (cases_eq p (4 * m + 1)) [
        | inl second ↦ rw second all.1
        | inr b ↦ elim (cases_eq p (4 * m + 2)) [
          | inl third ↦ rw third all.2
          | inr c ↦ let fourth : p ≡ 4 * m + 3 = omega (arith, a, b, c) in rw fourth all.3
        ]
      ]
    ]

-- where a cell is asked for its speed
pub few-asked : (states : List CellState) (speeds : List (ℕ × ℕ)) (zones : List SpeedZone) (from to : ℕ) → CanSweep states speeds zones → to ≤ length states →
    AreFew states speeds false from to
few-asked states speeds zones from to can there p begun before other =
    let within : p < length states = omega (arith, before, there) in
    elim (cases_Bool (can.slow p)) [
      | inl slow ↦ can.few p within slow
      | inr free ↦ absurd (other refl (can.free p within free))
    ]

pub few-in : (states : List CellState) (speeds : List (ℕ × ℕ)) (zones : List SpeedZone) (k : ℕ) → CanSweep states speeds zones → k < length zones →
    AreFew states speeds (zone_at zones k).all_slow (4 * (zone_at zones k).from) (4 * (zone_at zones k).to)
few-in states speeds zones k can within p from before other =
    let there : p < length states = omega (arith, before, can.laid.within k within) in
    elim (cases_Bool (zone_at zones k).all_slow) [
      | inl all_slow ↦ can.few p there (all_slow-four can.slow p (can.laid.all_slow k (p / 4) within (omega (arith, from)) (omega (arith, before)) ∙ all_slow))
      | inr asked ↦ few-asked states speeds zones p (p + 1) can (omega (arith, there)) p (omega arith) (omega arith) (λ _. other asked)
    ]

-- what a link carries of the parts that reach the end of its cell
pub carried-reaching : (state next : CellState) (speed : ℕ × ℕ) (reaching flow : ℕ) → reaching ≡ arriving speed state.n → reaching ≤ state.n →
    flow ≡ min (min state.most reaching) (let_in next.space next.n) → flow ≡ carried (slowed_state state speed) next
carried-reaching state next speed reaching flow is held carries =
    let sent : min state.most reaching ≡ min (min state.most (arriving speed state.n)) state.n = omega (arith, is, held) in
    carries ∙ ap (λ one. min one (let_in next.space next.n)) sent
