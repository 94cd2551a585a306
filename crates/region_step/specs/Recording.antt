-- The steps that are recorded, and what is noted of them.
use Rattle.std.specs.Prelude.{ℕ, ◌-◌, ◌+◌, ◌%◌, Bool, not, ◌==◌, ◌&&◌, ◌||◌, List}
use Rattle.std.specs.List.{filter, range_with_len}
use Rattle.flow_model.specs.declared.row.Row.{Row}
use Rattle.region_step.specs.declared.note.Note.{Note}

-- of the steps 0 to T those that `every` divides, and T itself; none where `every` is 0
abbrev pub is_recorded : (steps every t : ℕ) → Bool
is_recorded steps every t = not (every == 0) && ((t % every == 0) || (t == steps))

-- which of the steps `from` to `t` are recorded
abbrev pub recorded : (steps every from t : ℕ) → List ℕ
recorded steps every from t = filter (is_recorded steps every) (range_with_len from (t + 1 - from))

-- what is noted of a row
abbrev pub note_of : Row → Note
note_of row = record { n = row.n; gone = row.gone }
