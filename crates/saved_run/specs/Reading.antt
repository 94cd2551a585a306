-- The content of a saved text.
use Rattle.std.specs.Prelude.{◌≡◌, ℕ, zero, suc, ◌&&◌, List, [], ◌∷◌, codes, length, nat_le, nat_lt, Option, Some, None, if◌then◌else◌, option_map}
use Rattle.std.specs.Option.{option_or}
use Rattle.fixed_flow.specs.Sequence.{◌>>=◌}
use Rattle.network_file.specs.Limits.{most_bytes, most_regions}
use Rattle.saved_run.specs.Content.{Content, IsContent}
use Rattle.saved_run.specs.Fronts.{Front, behind, counted_line_at, row_line_at}
use Rattle.saved_run.specs.SavedText.{saved_text}
use Rattle.saved_run.specs.declared.row_line.RowLine.{RowLine}

-- bytes that are the saved text of a content
pub record IsSavedText (bytes : List ℕ) (content : Content) : Type 0 where
  pub text : bytes ≡ saved_text content
  pub is_content : IsContent content

-- the steps of so many lines `step,s`
unfoldable pub step_lines_at : (count : ℕ) → List ℕ → Option (Front (List ℕ))
step_lines_at zero text = Some (record { value = []; rest = text })
step_lines_at (suc count) text = do
  step ← counted_line_at (codes "step") text
  more ← step_lines_at count step.rest
  Some (record { value = step.value ∷ more.value; rest = more.rest })

-- at most so many lines: row lines, and then the line `net`; behind it stands the network
unfoldable pub row_lines_at : (lines : ℕ) → List ℕ → Option (Front (List RowLine))
row_lines_at zero text = None
row_lines_at (suc lines) text = option_or (option_map (λ network. record { value = []; rest = network }) (behind (codes "net\n") text)) (do
  row ← row_line_at text
  more ← row_lines_at lines row.rest
  Some (record { value = row.value ∷ more.value; rest = more.rest }))

-- the content of a saved text; a text has no more lines than bytes
unfoldable pub content_of : List ℕ → Option Content
content_of bytes = do
  regions ← counted_line_at (codes "saved,1") bytes
  steps ← if nat_lt 0 regions.value && nat_le regions.value most_regions then step_lines_at regions.value regions.rest else None
  rows ← row_lines_at (length steps.rest) steps.rest
  if nat_le (length rows.rest) most_bytes then Some (record { steps = steps.value; rows = rows.value; network = rows.rest }) else None
