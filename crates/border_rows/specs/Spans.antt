-- What `Places` keeps: the words of each region, one region after the other.
use Rattle.std.specs.Prelude.{◌≡◌, ℕ, List, length, map}
use Rattle.std.specs.List.{range_with_len}
use Rattle.border_rows.specs.Places.{base_of, width_at, words_of}
use Rattle.border_rows.specs.declared.span.Span.{Span}

abbrev pub span_of : (widths : List ℕ) → (r : ℕ) → Span
span_of widths r = record { base = base_of widths r; width = width_at widths r }

abbrev pub spans_of : (widths : List ℕ) → List Span
spans_of widths = map (span_of widths) (range_with_len 0 (length widths))

abbrev pub widths_in : List Span → List ℕ
widths_in spans = map (λ span. span.width) spans

-- each begins behind the one before it, and this is the number of their words
pub record AreLaidOut (spans : List Span) (words : ℕ) : Type 0 where
  pub each : spans ≡ spans_of (widths_in spans)
  pub all : words ≡ words_of (widths_in spans)
