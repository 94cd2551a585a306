-- A sweep from its beginning, cell by cell.
use Rattle.std.proofs.Common.{◌≡◌, ℕ, ◌+◌, ◌^◌, ◌<◌, ◌≤◌, List, length, set, refl, sym, ap, ◌∙◌, arith}
use Rattle.std.proofs.lemmas.List.{get_or-set_other, length-set}
use Rattle.cell_sweep.specs.CellStates.{AreSound, link_in, link_out, moved, no_state, cell_state_at, swept}
use Rattle.cell_sweep.specs.Speeds.{at_speeds}
use Rattle.cell_sweep.specs.Sweeping.{IsSweptTo}
use Rattle.cell_sweep.specs.declared.cell_state.CellState.{CellState}
use Rattle.cell_sweep.proofs.Neighbours.{link_in-first, link_in-more}
use Rattle.cell_sweep.proofs.Sets.{done_more, rest_more}

-- it hasn't begun
pub swept-none : (first : List CellState) (speeds : List (ℕ × ℕ)) (before : List ℕ) → AreSound first → 1 ≤ length first → IsSweptTo first speeds 0 first before 0
swept-none first speeds before sound some = record {
  sound = sound;
  long = refl;
  carried = sym (link_in-first (at_speeds first speeds));
  fits = let gone = sound.gone 0 some in omega arith;
  done = λ k below. absurd (omega (arith, below));
  rest = λ k _. refl;
  noted = λ k below. absurd (omega (arith, below));
}

-- one cell more
pub swept-one : (first : List CellState) (speeds : List (ℕ × ℕ)) (p : ℕ) (states : List CellState) (before : List ℕ) (enters leaves : ℕ) (after : CellState) →
    IsSweptTo first speeds p states before enters → p + 1 < length states → length before ≡ length states → leaves ≡ link_out (at_speeds first speeds) p →
    after ≡ moved (cell_state_at states p) enters leaves → (cell_state_at states (p + 1)).n + leaves < 2 ^ 64 →
    IsSweptTo first speeds (p + 1) (set states p after) (set before p (cell_state_at states p).n) leaves
swept-one first speeds p states before enters leaves after held there one_each out after_is fits =
    let here : cell_state_at states p ≡ cell_state_at first p = held.rest p (omega arith) in
    let sending = at_speeds first speeds in
    let is : after ≡ swept first sending p =
    after_is ∙ ap (λ state. moved state enters leaves) here ∙ ap (λ x. moved (cell_state_at first p) x leaves) held.carried
    ∙ ap (moved (cell_state_at first p) (link_in sending p)) out in
    record {
      sound = held.sound;
      long = length-set states p after ∙ held.long;
      carried = out ∙ sym (link_in-more sending p);
      fits = rw (get_or-set_other states p (p + 1) after no_state (omega arith)) fits;
      done = done_more (swept first sending) states p after no_state (omega (arith, there)) is held.done;
      rest = rest_more (cell_state_at first) states p after no_state held.rest;
      noted = done_more (λ k. (cell_state_at first k).n) before p (cell_state_at states p).n 0 (omega (arith, there, one_each)) (ap (λ one. one.n) here) held.noted;
    }
