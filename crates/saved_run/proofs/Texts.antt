-- A saved text is read as its content, and what is read as a content is its saved text.
use Rattle.std.specs.Prelude.{codes, flat_map, nat_le, nat_lt}
use Rattle.std.proofs.Common.{◌≡◌, ℕ, ◌+◌, ◌<◌, ◌≤◌, ◌&&◌, Bool, true, false, cond, List, [], ◌∷◌, ◌++◌, length, Option, Some, None, refl, sym, ap, subst, ◌∙◌, arith, append_assoc, length-append}
use Rattle.std.proofs.lemmas.Bool.{and_parts}
use Rattle.std.proofs.lemmas.Bool.Decides.{nat_tests}
use Rattle.network_file.specs.Limits.{most_bytes, most_regions}
use Rattle.saved_run.specs.Content.{Content, IsContent}
use Rattle.saved_run.specs.Fronts.{counted_line_at}
use Rattle.saved_run.specs.Reading.{IsSavedText, content_of, row_lines_at, step_lines_at}
use Rattle.saved_run.specs.SavedText.{counted_line, row_line, saved_text}
use Rattle.saved_run.specs.declared.row_line.RowLine.{RowLine}
use Rattle.saved_run.proofs.Fronts.{chained, counted_line_at-line, line-counted_line_at}
use Rattle.saved_run.proofs.Heads.{lines-row_lines_at, lines-step_lines_at, row_lines_at-lines, step_lines_at-lines}
use Rattle.saved_run.proofs.Numbers.{none_is_no_some, passed}

five : (a b c d e : List ℕ) → a ++ b ++ c ++ d ++ e ≡ a ++ (b ++ (c ++ (d ++ e)))
five a b c d e = simp append_assoc refl

-- each line has a byte
some_byte : (line : RowLine) → 0 < length (row_line line)
unfolding row_line
some_byte line = omega arith

length-lines : (rows : List RowLine) (rest : List ℕ) → length rows + length rest ≤ length (flat_map row_line rows ++ rest)
length-lines [] rest = omega arith
length-lines (row ∷ rows) rest =
    omega (arith, some_byte row, length-lines rows rest, length-append (flat_map row_line rows) rest, length-append (row_line row) (flat_map row_line rows), length-append (row_line row ++ flat_map row_line rows) rest)

pub content_of-saved_text : (content : Content) → IsContent content → content_of (saved_text content) ≡ Some content
unfolding content_of saved_text
content_of-saved_text content is =
    let count = length content.steps in
    let end = codes "net\n" ++ content.network in
    let rows_text = flat_map row_line content.rows ++ end in
    let steps_text = flat_map (counted_line (codes "step")) content.steps ++ rows_text in
    let whole = five (counted_line (codes "saved,1") count) (flat_map (counted_line (codes "step")) content.steps) (flat_map row_line content.rows) (codes "net\n") content.network in
    let regions : counted_line_at (codes "saved,1") (counted_line (codes "saved,1") count ++ flat_map (counted_line (codes "step")) content.steps ++ flat_map row_line content.rows ++ codes "net\n" ++ content.network)
    ≡ Some (record { value = count; rest = steps_text }) =
    ap (counted_line_at (codes "saved,1")) whole ∙ counted_line_at-line (codes "saved,1") count steps_text (omega (arith, is.few)) in
    let counted : (nat_lt 0 count && nat_le count most_regions) ≡ true = grind (arith, nat_tests, is.some, is.few) in
    let steps : step_lines_at count steps_text ≡ Some (record { value = content.steps; rest = rows_text }) = step_lines_at-lines content.steps rows_text is.steps in
    let few : length content.rows < length rows_text = omega (arith, length-lines content.rows end) in
    let rows : row_lines_at (length rows_text) rows_text ≡ Some (record { value = content.rows; rest = content.network }) = row_lines_at-lines (length rows_text) content.rows content.network few is.rows in
    let short : nat_le (length content.network) most_bytes ≡ true = grind (arith, nat_tests, is.network) in
    rw (regions, counted, steps, rows, short) refl

counted : {A : Type 0} (test : Bool) (found : Option A) (a : A) → cond test found None ≡ Some a → (test ≡ true) × (found ≡ Some a)
counted true found a same = (refl, same)
counted false found a same = absurd (none_is_no_some a same)

pub saved_text-content_of : (bytes : List ℕ) (content : Content) → content_of bytes ≡ Some content → IsSavedText bytes content
unfolding content_of saved_text
saved_text-content_of bytes content reads =
    let regions = chained (counted_line_at (codes "saved,1") bytes) _ content reads in
    let steps = chained (cond (nat_lt 0 regions.0.value && nat_le regions.0.value most_regions) (step_lines_at regions.0.value regions.0.rest) None) _ content regions.2 in
    let rows = chained (row_lines_at (length steps.0.rest) steps.0.rest) _ content steps.2 in
    let last = passed (nat_le (length rows.0.rest) most_bytes) (record { steps = steps.0.value; rows = rows.0.value; network = rows.0.rest }) content rows.2 in
    let first = line-counted_line_at (codes "saved,1") bytes regions.0 regions.1 in
    let test = counted (nat_lt 0 regions.0.value && nat_le regions.0.value most_regions) (step_lines_at regions.0.value regions.0.rest) steps.0 steps.1 in
    let step_lines = lines-step_lines_at regions.0.value regions.0.rest steps.0 test.1 in
    let row_lines = lines-row_lines_at (length steps.0.rest) steps.0.rest rows.0 rows.1 in
    let bounds = and_parts (nat_lt 0 regions.0.value) (nat_le regions.0.value most_regions) test.0 in
    let some : 1 ≤ regions.0.value = grind (arith, nat_tests, bounds.0) in
    let few : regions.0.value ≤ most_regions = grind (arith, nat_tests, bounds.1) in
    let short : length rows.0.rest ≤ most_bytes = grind (arith, nat_tests, last.0) in
    let front : counted_line (codes "saved,1") regions.0.value ≡ counted_line (codes "saved,1") (length steps.0.value) = ap (counted_line (codes "saved,1")) (sym step_lines.counted) in
    subst (IsSavedText bytes) last.1 (record {
      text = first.1 ∙ ap (λ front. front ++ regions.0.rest) front
          ∙ ap (λ rest. counted_line (codes "saved,1") (length steps.0.value) ++ rest) (step_lines.lines ∙ ap (λ rest. flat_map (counted_line (codes "step")) steps.0.value ++ rest) row_lines.lines)
          ∙ sym (five (counted_line (codes "saved,1") (length steps.0.value)) (flat_map (counted_line (codes "step")) steps.0.value) (flat_map row_line rows.0.value) (codes "net\n") rows.0.rest);
      is_content = record { some = omega (arith, some, step_lines.counted); few = omega (arith, few, step_lines.counted); steps = step_lines.small; rows = row_lines.fit; network = short };
    })
