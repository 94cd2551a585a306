-- How many steps are still to be recorded, and what is noted of rows.
use Rattle.std.specs.Prelude.{ℕ, ◌-◌, ◌+◌, List, length, map}
use Rattle.std.specs.List.{filter, range_with_len}
use Rattle.flow_model.specs.declared.row.Row.{Row}
use Rattle.region_step.specs.declared.note.Note.{Note}
use Rattle.region_step.specs.Recording.{is_recorded, note_of}

-- how many steps after step t are recorded
abbrev pub recorded_after : (steps every t : ℕ) → ℕ
recorded_after steps every t = length (filter (is_recorded steps every) (range_with_len (t + 1) (steps - t)))

abbrev pub notes_of : List Row → List Note
notes_of rows = map note_of rows
