-- How long the lines of a saved text are, and the whole of it.
use Rattle.std.specs.Prelude.{All, codes, flat_map}
use Rattle.std.specs.Fmt.{decimal}
use Rattle.std.proofs.Common.{◌≡◌, ℕ, ◌*◌, ◌<◌, ◌≤◌, ◌^◌, List, length, length-append, refl, arith}
use Rattle.std.proofs.lemmas.Fmt.{length-decimal-le}
use Rattle.std.proofs.lemmas.List.Concat.{length-flat_map}
use Rattle.std.proofs.lemmas.List.Sums.{sum_by-le}
use Rattle.line_fields.specs.Fields.{count_field}
use Rattle.network_file.specs.Formats.{most_records}
use Rattle.network_file.specs.Limits.{most_regions}
use Rattle.saved_run.specs.Content.{Content, IsContent, IsRowLine}
use Rattle.saved_run.specs.SavedLength.{most_row_line, most_saved, most_step_line}
use Rattle.saved_run.specs.SavedText.{counted_line, row_line, saved_text}
use Rattle.saved_run.specs.declared.row_line.RowLine.{RowLine}

-- a comma and at most 20 digits
count_field-short : (n : ℕ) → n < 2 ^ 64 → length (count_field n) ≤ 21
count_field-short n small = omega (arith, length-append (codes ",") (decimal n), length-decimal-le 20 n (omega arith) (omega (arith, small)) small)

-- and at most 3 of a number below 1,000
count_field-few : (n : ℕ) → n < 1_000 → length (count_field n) ≤ 4
count_field-few n small = omega (arith, length-append (codes ",") (decimal n), length-decimal-le 3 n (omega arith) (omega (arith, small)) (omega (arith, small)))

first_line-short : (count : ℕ) → count ≤ most_regions → length (counted_line (codes "saved,1") count) ≤ 12
unfolding counted_line
first_line-short count few = simp length-append (omega (arith, count_field-few count (omega (arith, few))))

step_line-short : (step : ℕ) → step < 2 ^ 64 → length (counted_line (codes "step") step) ≤ most_step_line
unfolding counted_line
step_line-short step small = simp length-append (omega (arith, count_field-short step small))

row_line-short : (line : RowLine) → IsRowLine line → line.region < most_regions → length (row_line line) ≤ most_row_line
unfolding row_line
row_line-short line fits one = simp length-append (
    omega (
      arith,
      count_field-few line.region (omega (arith, one)),
      count_field-short line.row.n fits.row.n,
      count_field-short line.row.come fits.row.come,
      count_field-short line.row.gone fits.row.gone,
      count_field-short line.row.wait fits.row.wait,
      count_field-short line.earlier fits.earlier,
    )
    )

-- so many lines
lines-short : {X : Type 0} (line : X → List ℕ) (most : ℕ) (items : List X) → All (λ item. length (line item) ≤ most) items → length (flat_map line items) ≤ length items * most
lines-short line most items each = omega (arith, length-flat_map line items, sum_by-le (λ item. length (line item)) most items each)

-- a content of few cells, each with the number of a region, has a short text
pub saved_text-short : (content : Content) → IsContent content → length content.rows ≤ most_records 2 → All (λ line. line.region < most_regions) content.rows → length (saved_text content) ≤ most_saved
unfolding saved_text
saved_text-short content is few regions =
    let count = length content.steps in
    simp length-append (omega (
      arith,
      first_line-short count is.few,
      lines-short (counted_line (codes "step")) most_step_line content.steps (λ k d within. step_line-short _ (is.steps k d within)),
      lines-short row_line most_row_line content.rows (λ k d within. row_line-short _ (is.rows k d within) (regions k d within)),
      is.few,
      few,
      is.network,
    ))

pub most_saved-is : most_saved ≡ 39_390_544
most_saved-is = refl
