-- States that wait.
use Rattle.std.specs.Prelude.{map}
use Rattle.std.proofs.Common.{◌≡◌, ℕ, zero, suc, ◌+◌, ◌*◌, ◌%◌, ◌^◌, ◌<◌, inl, inr, List, [], ◌∷◌, length, refl, sym, ap, ◌∙◌, add-one, arith}
use Rattle.std.proofs.Math.Nat.{mod-add-mod, mul-suc}
use Rattle.std.proofs.lemmas.Bool.{cases_lt}
use Rattle.std.proofs.lemmas.List.{get_or-map, length-map, map-id}
use Rattle.cell_sweep.specs.CellStates.{no_state, cell_state_at}
use Rattle.cell_sweep.specs.declared.cell_state.CellState.{CellState}
use Rattle.cell_sweep.proofs.Neighbours.{cell_state_at-past}
use Rattle.cell_sweep.specs.Waiting.{waited}

-- one step more
once : CellState → CellState
once state = record state { held = (state.held + state.n) % 2 ^ 64 }

-- what a cell holds counts once for each step
pub waited-is : (steps : ℕ) (state : CellState) → waited (suc steps) state ≡ record state { held = (state.held + state.n * suc steps) % 2 ^ 64 }
unfolding waited once
waited-is zero state = let one : state.n * 1 ≡ state.n = omega arith in rw one refl
waited-is (suc steps) state =
    ap {A = CellState} {B = CellState} once (waited-is steps state)
    ∙ ap {A = ℕ} {B = CellState} (λ held. record state { held = held }) (mod-add-mod (state.held + state.n * suc steps) (2 ^ 64) state.n
    ∙ ap (λ x. x % 2 ^ 64) (omega (arith, mul-suc state.n (suc steps))))

-- nothing else of it changes
pub waited-n : (steps : ℕ) (state : CellState) → (waited steps state).n ≡ state.n
unfolding waited
waited-n zero state = refl
waited-n (suc steps) state = waited-n steps state

waited-gone : (steps : ℕ) (state : CellState) → (waited steps state).gone ≡ state.gone
unfolding waited
waited-gone zero state = refl
waited-gone (suc steps) state = waited-gone steps state

waited-most : (steps : ℕ) (state : CellState) → (waited steps state).most ≡ state.most
unfolding waited
waited-most zero state = refl
waited-most (suc steps) state = waited-most steps state

waited-space : (steps : ℕ) (state : CellState) → (waited steps state).space ≡ state.space
unfolding waited
waited-space zero state = refl
waited-space (suc steps) state = waited-space steps state

state-same : (one other : CellState) → one.n ≡ other.n → one.gone ≡ other.gone → one.most ≡ other.most → one.space ≡ other.space →
    one ≡ record other { held = one.held }
state-same one other n gone most space = rw (← n, ← gone, ← most, ← space) refl

pub waited-same : (steps : ℕ) (state : CellState) → waited steps state ≡ record state { held = (waited steps state).held }
waited-same steps state =
    state-same (waited steps state) state (waited-n steps state) (waited-gone steps state) (waited-most steps state) (waited-space steps state)

-- states that wait, one by one
pub length-waited : (steps : ℕ) (states : List CellState) → length (map (waited steps) states) ≡ length states
length-waited steps states = length-map states (waited steps)

pub cell_state_at-waited : (steps : ℕ) (states : List CellState) (p : ℕ) → p < length states → cell_state_at (map (waited steps) states) p ≡ waited steps (cell_state_at states p)
cell_state_at-waited steps states p within = get_or-map (waited steps) states p no_state no_state within

pub n-waited : (steps : ℕ) (states : List CellState) (p : ℕ) → (cell_state_at (map (waited steps) states) p).n ≡ (cell_state_at states p).n
n-waited steps states p = elim (cases_lt p (length states)) [
  | inl within ↦ ap (λ state. state.n) (cell_state_at-waited steps states p within) ∙ waited-n steps (cell_state_at states p)
  | inr past ↦
      ap (λ state. state.n) (cell_state_at-past (map (waited steps) states) p (omega (arith, past, length-waited steps states)))
      ∙ sym (ap (λ state. state.n) (cell_state_at-past states p (omega (arith, past))))
]

pub gone-waited : (steps : ℕ) (states : List CellState) (p : ℕ) → p < length states → (cell_state_at (map (waited steps) states) p).gone ≡ (cell_state_at states p).gone
gone-waited steps states p within = ap (λ state. state.gone) (cell_state_at-waited steps states p within ∙ waited-same steps (cell_state_at states p))

-- no step, and one more
pub waited-none : (states : List CellState) → map (waited 0) states ≡ states
unfolding waited
waited-none states = map-id states

pub waited-more : (steps : ℕ) (states : List CellState) → map (waited 1) (map (waited steps) states) ≡ map (waited (steps + 1)) states
unfolding waited
waited-more steps [] = refl
waited-more steps (state ∷ states) =
    let next : suc steps ≡ steps + 1 = sym (add-one steps) in
    ap (λ rest. waited 1 (waited steps state) ∷ rest) (waited-more steps states) ∙ ap (λ k. waited k state ∷ map (waited (steps + 1)) states) next

pub waited-unowed : (owed : ℕ) (states : List CellState) → owed ≡ 0 → map (waited owed) states ≡ states
waited-unowed owed states none = ap (λ k. map (waited k) states) none ∙ waited-none states

pub unowed : (owed : ℕ) (states now : List CellState) → map (waited owed) states ≡ now → owed ≡ 0 → states ≡ now
unowed owed states now is none = sym (waited-unowed owed states none) ∙ is
