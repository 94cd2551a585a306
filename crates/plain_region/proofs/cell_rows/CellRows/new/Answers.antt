use Rattle.std.specs.Prelude.{map, slice_index}
use Rattle.std.proofs.Common.{ap, ◌∙◌}
use Rattle.std.proofs.lemmas.Simd.{map-map}
use Rattle.plain_region.specs.Opening.{earlier_row}
use Rattle.plain_region.proofs.cell_rows.CellRows.new.Goals as goal

pub returns-clause-before : goal.returns-clause-before
returns-clause-before c =
    ap (map (λ row. row.n)) c.in_ok-last.ensures ∙ map-map (λ row. row.n) (λ i. earlier_row (slice_index c.args.earlier.now i)) c.args.cells.now
