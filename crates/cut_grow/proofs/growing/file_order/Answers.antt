use Rattle.std.specs.List.{range_with_len}
use Rattle.std.proofs.Common.{◌≡◌, [], ◌∷◌, ◌++◌, ap, sym, zero-add, ◌∙◌, ◌+◌}
use Rattle.std.proofs.lemmas.List.{map-id}
use Rattle.std.proofs.lemmas.List.FromFn.{map-range_with_len_more}
use Rattle.cut_grow.proofs.growing.file_order.Goals as goal

pub loop-cell-preserved : goal.loop-cell-preserved
loop-cell-preserved c =
    let more : range_with_len 0 (c.loop-cell.cell + 1) ≡ range_with_len 0 c.loop-cell.cell ++ c.loop-cell.cell ∷ [] =
    simp map-id at (map-range_with_len_more (λ x. x) 0 c.loop-cell.cell c.loop-cell.cell (zero-add c.loop-cell.cell)) in
    c.in_ok-push.ensures.items ∙ ap (λ order. order ++ c.loop-cell.cell ∷ []) c.loop-cell.invariant ∙ sym more
