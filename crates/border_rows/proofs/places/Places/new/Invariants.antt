use Rattle.std.specs.List.{range_with_len}
use Rattle.std.proofs.Common.{◌≡◌, map}
use Rattle.border_rows.specs.Places.{base_of, widths_of}
use Rattle.border_rows.specs.Spans.{span_of}
use Rattle.border_rows.proofs.places.Places.new.Given as goal

abbrev pub invariant-loop-r : goal.invariant-loop-r
invariant-loop-r l = record {
  spans : l.spans.items ≡ map (span_of (widths_of l.layout.chart)) (range_with_len 0 l.r);
  words : l.words ≡ base_of (widths_of l.layout.chart) l.r;
}
