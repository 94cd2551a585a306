use Rattle.std.specs.Prelude.{slice_index}
use Rattle.std.proofs.Common.{arith}
use Rattle.std.proofs.lemmas.List.{length_push}
use Rattle.flow_model.specs.State.{row_at}
use Rattle.cell_sweep.specs.CellStates.{no_state}
use Rattle.region_body.specs.First.{IsFirst}
use Rattle.region_body.proofs.Pushes.{each_push}
use Rattle.region_body.proofs.opening.states_of.Goals as goal

pub loop-i-preserved : goal.loop-i-preserved
loop-i-preserved c =
    let items = c.in_ok-push.ensures.items in
    let states = c.loop-i.states.items in
    record {
      long = rw items (omega (arith, length_push states c.state_of.result, c.loop-i.invariant.long));
      each = rw items (each_push
          (λ p state. IsFirst c.args.net.now (slice_index c.args.cells.now p) (row_at c.args.rows.now (slice_index c.args.cells.now p)) state)
          states c.state_of.result no_state c.loop-i.i-index c.loop-i.invariant.long c.loop-i.invariant.each c.state_of.ensures);
    }
