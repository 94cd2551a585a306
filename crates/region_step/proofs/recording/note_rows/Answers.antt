use Rattle.std.proofs.Common.{◌≡◌, ◌+◌, ◌<◌, ◌++◌, ◌∷◌, [], ℕ, List, length, take, sym, ap, ◌∙◌, arith}
use Rattle.std.proofs.lemmas.List.{append_assoc, map-append, take_all, take_more}
use Rattle.flow_model.specs.Rows.{empty_row}
use Rattle.flow_model.specs.State.{row_at}
use Rattle.flow_model.specs.declared.row.Row.{Row}
use Rattle.region_step.specs.Ordered.{rows_in}
use Rattle.region_step.proofs.Ordered.{length-rows_in}
use Rattle.region_step.specs.Recording.{note_of}
use Rattle.region_step.specs.Noting.{notes_of}
use Rattle.region_step.specs.declared.note.Note.{Note}
use Rattle.region_step.proofs.recording.note_rows.Goals as goal

noted-more : (trail : List Note) (rows : List Row) (i : ℕ) → i < length rows →
    (trail ++ notes_of (take i rows)) ++ note_of (row_at rows i) ∷ [] ≡ trail ++ notes_of (take (i + 1) rows)
noted-more trail rows i within =
    append_assoc trail (notes_of (take i rows)) (note_of (row_at rows i) ∷ []) ∙
    ap (λ list. trail ++ list) (sym (ap notes_of (take_more rows i empty_row within) ∙ map-append note_of (take i rows) (row_at rows i ∷ [])))

pub loop-i-preserved : goal.loop-i-preserved
loop-i-preserved c =
    let rows : List Row = rows_in c.args.cells.now in
    let within : c.loop-i.i < length rows = omega (arith, length-rows_in c.args.cells.now, c.loop-i-test.true, c.count-i-end.ensures, c.requires.few) in
    record {
      notes = rw (c.push_reserved.ensures.items, c.loop-i.invariant.notes, c.held.ensures, c.gone.ensures) (noted-more c.args.trail.now.items rows c.loop-i.i within);
      room = omega (arith, c.loop-i.invariant.room, c.push_reserved.ensures.capacity);
    }

pub returns-clause-notes : goal.returns-clause-notes
returns-clause-notes c =
    let rows : List Row = rows_in c.args.cells.now in
    let all : take c.loop-i.i rows ≡ rows =
    take_all c.loop-i.i rows (omega (arith, length-rows_in c.args.cells.now, c.loop-i-test.false, c.count-i-end.ensures, c.requires.few)) in
    c.loop-i.invariant.notes ∙ ap (λ list. c.args.trail.now.items ++ notes_of list) all
