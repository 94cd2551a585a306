-- What `Places` keeps of each region.
use Rattle.std.specs.Prelude.{slice_index_or}
use Rattle.std.specs.List.{range_with_len}
use Rattle.std.proofs.Common.{◌≡◌, ℕ, ◌+◌, ◌<◌, List, [], ◌∷◌, ◌++◌, length, map, refl, sym, ap, ◌∙◌, zero-add}
use Rattle.std.proofs.lemmas.List.FromFn.{fill_by_all, get_or-map-range_with_len, map-range_with_len_more}
use Rattle.std.proofs.lemmas.Simd.{map-map}
use Rattle.border_rows.specs.Places.{base_of, width_at}
use Rattle.border_rows.specs.Spans.{span_of, spans_of, widths_in}
use Rattle.border_rows.specs.declared.span.Span.{Span}

pub widths_in-spans_of : (widths : List ℕ) → widths_in (spans_of widths) ≡ widths
widths_in-spans_of widths =
    map-map (λ (span : Span). span.width) (span_of widths) (range_with_len 0 (length widths)) ∙
    sym (fill_by_all (width_at widths) widths (length widths) 0 refl (λ r within. refl))

-- the span that was read
pub span_at : (widths : List ℕ) (spans : List Span) (r : ℕ) (span : Span) → spans ≡ spans_of widths → r < length widths → span ≡ slice_index_or spans r span →
    span ≡ span_of widths r
span_at widths spans r span are within is =
    is ∙ ap (λ list. slice_index_or list r span) are ∙ get_or-map-range_with_len (span_of widths) 0 (length widths) r r span within (zero-add r)

pub one_span_more : (widths : List ℕ) (spans : List Span) (r base width : ℕ) → spans ≡ map (span_of widths) (range_with_len 0 r) → base ≡ base_of widths r → width ≡ width_at widths r →
    spans ++ record { base = base; width = width } ∷ [] ≡ map (span_of widths) (range_with_len 0 (r + 1))
one_span_more widths spans r base width are behind wide =
    rw (behind, wide, are) (sym (map-range_with_len_more (span_of widths) 0 r r (zero-add r)))
