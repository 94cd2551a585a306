use Rattle.std.specs.Prelude.{map}
use Rattle.std.proofs.Common.{◌∙◌, ap, sym, arith}
use Rattle.std.proofs.lemmas.List.{ext_get_or, length-map}
use Rattle.cell_sweep.specs.CellStates.{no_state, cell_state_at}
use Rattle.cell_sweep.proofs.Sets.{done_more, rest_more}
use Rattle.cell_sweep.specs.Waiting.{waited}
use Rattle.cell_sweep.proofs.Waits.{cell_state_at-waited}
use Rattle.cell_sweep.proofs.waiting.wait_all.Goals as goal

pub loop-p-preserved : goal.loop-p-preserved
loop-p-preserved c = record {
  done = done_more (λ k. waited c.args.steps (cell_state_at c.args.states.now k)) c.loop-p.states c.loop-p.p c.waited.result no_state (omega arith)
      (c.waited.ensures ∙ ap (waited c.args.steps) (c.loop-p.invariant.rest c.loop-p.p (omega arith))) c.loop-p.invariant.done;
  rest = rest_more (cell_state_at c.args.states.now) c.loop-p.states c.loop-p.p c.waited.result no_state c.loop-p.invariant.rest;
}

pub returns : goal.returns
returns c =
    ext_get_or no_state c.loop-p.states (map (waited c.args.steps) c.args.states.now) (c.loop-p.auto.states ∙ sym (length-map c.args.states.now (waited c.args.steps)))
    (λ k lt. c.loop-p.invariant.done k (omega arith) ∙ sym (cell_state_at-waited c.args.steps c.args.states.now k (omega arith)))
