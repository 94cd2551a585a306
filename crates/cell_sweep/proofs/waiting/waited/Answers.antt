use Rattle.std.proofs.Common.{◌≡◌, ℕ, ◌≤◌, ◌+◌, ◌*◌, ◌%◌, ◌^◌, zero, suc, refl, ap, sym, ◌∙◌, arith}
use Rattle.std.proofs.Math.Nat.{add-mod-mod}
use Rattle.cell_sweep.specs.declared.cell_state.CellState.{CellState}
use Rattle.cell_sweep.specs.Waiting.{waited}
use Rattle.cell_sweep.proofs.Waits.{waited-is}
use Rattle.cell_sweep.proofs.waiting.waited.Goals as goal

some : (steps : ℕ) (state : CellState) → 1 ≤ steps → record state { held = (state.held + state.n * steps % 2 ^ 64) % 2 ^ 64 } ≡ waited steps state
some zero state one = absurd (omega arith)
some (suc steps) state one =
    ap (λ held. record state { held = held }) (add-mod-mod state.held (state.n * suc steps) (2 ^ 64)) ∙ sym (waited-is steps state)

pub returns-then-steps-eq0 : goal.returns-then-steps-eq0
unfolding waited
returns-then-steps-eq0 c = rw c.if-steps-eq0.true refl

pub returns : goal.returns
returns c = some c.args.steps c.args.state.now (omega arith)
