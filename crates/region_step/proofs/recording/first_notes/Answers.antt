use Rattle.std.proofs.Common.{ℕ, ◌+◌, ◌*◌, ◌≤◌, List, [], ap, arith, ◌∙◌, length}
use Rattle.std.specs.Prelude.{if◌then◌else◌, vec_capacity, ◌++◌}
use Rattle.flow_model.specs.declared.row.Row.{Row}
use Rattle.region_step.specs.Ordered.{rows_in}
use Rattle.region_step.proofs.Ordered.{length-rows_in}
use Rattle.region_step.specs.Recording.{is_recorded}
use Rattle.region_step.specs.Noting.{notes_of, recorded_after}
use Rattle.region_step.proofs.Advancing.{noted-room}
use Rattle.region_step.proofs.recording.first_notes.Goals as goal

pub returns-clause-room : goal.returns-clause-room
returns-clause-room c =
    let rows : List Row = rows_in c.args.cells.now in
    let cells : ℕ = length c.args.cells.now.order.places in
    let later : ℕ = recorded_after c.args.steps c.args.every c.args.step in
    let fits : 0 + cells * ((if is_recorded c.args.steps c.args.every c.args.step then 1 else 0) + later) ≤ vec_capacity c.in_ok-trail.trail =
    omega (arith, rw c.count.ensures at c.room_for.ensures, c.in_ok-trail.ensures.capacity) in
    let noted = noted-room cells 0 later (vec_capacity c.in_ok-trail.trail) (is_recorded c.args.steps c.args.every c.args.step) rows
    (length-rows_in c.args.cells.now) fits in
    let notes = c.note_step.ensures.notes ∙ ap (λ front. front ++ (if c.is_recorded.result then notes_of rows else [])) c.in_ok-trail.ensures.items ∙
    ap (λ b. if b then notes_of rows else []) c.is_recorded.ensures in
    omega (arith, noted, ap length notes, c.note_step.ensures.room)
