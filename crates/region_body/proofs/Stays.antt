-- Settled states that wait.
use Rattle.std.specs.Prelude.{map}
use Rattle.std.proofs.Common.{◌≡◌, ℕ, ◌+◌, ◌%◌, ◌^◌, ◌<◌, false, List, length, ◌∙◌, arith}
use Rattle.std.proofs.Math.Nat.{mod-eq_of_lt}
use Rattle.cell_sweep.specs.CellStates.{AreSound, cell_state_at}
use Rattle.cell_sweep.specs.declared.cell_state.CellState.{CellState}
use Rattle.cell_sweep.specs.Waiting.{waited}
use Rattle.cell_sweep.proofs.Waits.{cell_state_at-waited, length-waited}
use Rattle.region_body.specs.Rows.{AreSettled, IsSettled, constants_at}
use Rattle.region_body.specs.declared.cell_constants.CellConstants.{CellConstants}

-- settled states can be swept
pub sound-settled : (constants : List CellConstants) (states : List CellState) (before : List ℕ) → AreSettled constants states before → AreSound states
sound-settled constants states before settled = record {
  room = λ p within. (settled.each p (omega (arith, settled.one_each))).room;
  gone = λ p within. omega (arith, (settled.each p (omega (arith, settled.one_each))).fits);
}

-- states whose sums don't run too large stay settled as they wait

state-waits : (constants : CellConstants) (state : CellState) → IsSettled constants state → (constants.is_exit ≡ false → state.held + state.n < 2 ^ 64) → IsSettled constants (waited 1 state)
unfolding waited
state-waits constants state is fits = record {
  began = is.began;
  sums = λ other.
      let whole : (state.held + state.n) % 2 ^ 64 ≡ state.held + state.n = mod-eq_of_lt (fits other) in
      omega (arith, is.sums other, whole);
  fits = is.fits;
  room = is.room;
}

pub settled-waits : (constants : List CellConstants) (states : List CellState) (before : List ℕ) → AreSettled constants states before →
    ((p : ℕ) → p < length constants → (constants_at constants p).is_exit ≡ false → (cell_state_at states p).held + (cell_state_at states p).n < 2 ^ 64) →
    AreSettled constants (map (waited 1) states) before
settled-waits constants states before settled fit = record {
  one_each = length-waited 1 states ∙ settled.one_each;
  before_each = settled.before_each;
  each = λ p within.
      rw (cell_state_at-waited 1 states p (omega (arith, within, settled.one_each)))
      (state-waits (constants_at constants p) (cell_state_at states p) (settled.each p within) (fit p within));
}
