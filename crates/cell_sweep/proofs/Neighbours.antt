-- What links between neighbours carry stays within what the cells hold and have room for.
use Rattle.std.proofs.Common.{◌≡◌, ℕ, ◌+◌, ◌≤◌, List, length, refl, ap, ◌∙◌, add-one, arith}
use Rattle.std.proofs.lemmas.List.{get_or_past}
use Rattle.cell_sweep.specs.CellStates.{carried, link_in, link_out, moved, no_state, cell_state_at, swept}
use Rattle.cell_sweep.specs.declared.cell_state.CellState.{CellState}

pub cell_state_at-past : (states : List CellState) (p : ℕ) → length states ≤ p → cell_state_at states p ≡ no_state
cell_state_at-past states p past = get_or_past states p no_state past

pub link_out-carried : (states : List CellState) (p : ℕ) → link_out states p ≡ carried (cell_state_at states p) (cell_state_at states (p + 1))
unfolding link_out
link_out-carried states p = refl

pub link_out-last : (states : List CellState) (p : ℕ) → length states ≤ p + 1 → link_out states p ≡ 0
link_out-last states p last =
    let past = cell_state_at-past states (p + 1) last in
    link_out-carried states p ∙ ap (λ next. carried (cell_state_at states p) next) past ∙ omega arith

pub link_in-more : (states : List CellState) (p : ℕ) → link_in states (p + 1) ≡ link_out states p
unfolding link_in
link_in-more states p = rw add-one

pub link_in-first : (states : List CellState) → link_in states 0 ≡ 0
unfolding link_in
link_in-first states = refl

-- the last cell is swept
pub swept-last : (states sending : List CellState) (state : CellState) (p : ℕ) (enters : ℕ) → length sending ≤ p + 1 → state ≡ cell_state_at states p →
    enters ≡ link_in sending p → moved state enters 0 ≡ swept states sending p
swept-last states sending state p enters last here came = let none = link_out-last sending p last in cc
