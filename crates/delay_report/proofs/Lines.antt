-- The lines of the recorded steps, one after the other.
use Rattle.std.proofs.Common.{◌≡◌, ℕ, ◌<◌, List, [], ◌∷◌, ◌++◌, length, refl, ap, ◌∙◌}
use Rattle.std.specs.Prelude.{flat_map}
use Rattle.std.proofs.lemmas.Grind.{flat_map-append}
use Rattle.std.proofs.lemmas.List.{append-nil}
use Rattle.network_file.specs.Cells.{name_at}
use Rattle.network_file.specs.declared.cell.Cell.{Cell}
use Rattle.line_fields.proofs.Lines.{lines_of-same}
use Rattle.region_step.specs.declared.note.Note.{Note}
use Rattle.delay_report.specs.Report.{note_line, note_lines, step_lines}

-- the lines of one step more
pub note_lines-more : (cells : List Cell) (note : ℕ → ℕ → Note) (steps : List ℕ) (t : ℕ) → note_lines cells note (steps ++ t ∷ []) ≡ note_lines cells note steps ++ step_lines cells (note t) t
unfolding note_lines
note_lines-more cells note steps t =
    flat_map-append (λ s. step_lines cells (note s) s) steps (t ∷ []) ∙
    ap (λ last. flat_map (λ s. step_lines cells (note s) s) steps ++ last) (append-nil (step_lines cells (note t) t))

pub note_lines-none : (cells : List Cell) (note : ℕ → ℕ → Note) → note_lines cells note [] ≡ []
unfolding note_lines
note_lines-none cells note = refl

-- the same lines of the same notes
pub note_lines-same : (cells : List Cell) (f g : ℕ → ℕ → Note) (steps : List ℕ) → ((t i : ℕ) → i < length cells → f t i ≡ g t i) → note_lines cells f steps ≡ note_lines cells g steps
unfolding note_lines
note_lines-same cells f g [] same = refl
note_lines-same cells f g (t ∷ steps) same =
    let first : step_lines cells (f t) t ≡ step_lines cells (g t) t =
    lines_of-same (λ i. note_line t (name_at cells i) (f t i)) (λ i. note_line t (name_at cells i) (g t i)) (length cells) (λ i there. ap (note_line t (name_at cells i)) (same t i there)) in
    ap (λ line. line ++ note_lines cells f steps) first ∙ ap (λ rest. step_lines cells (g t) t ++ rest) (note_lines-same cells f g steps same)
