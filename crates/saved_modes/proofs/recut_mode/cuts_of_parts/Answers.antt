use Rattle.std.specs.Prelude.{map}
use Rattle.std.specs.List.{range_with_len}
use Rattle.std.proofs.Common.{ℕ, List, [], ◌∷◌, ◌++◌, ◌+◌, length, sym, ap, ◌∙◌, arith}
use Rattle.std.proofs.lemmas.List.FromFn.{map-range_with_len_more}
use Rattle.saved_modes.specs.Recutting.{part_cutting}
use Rattle.saved_modes.proofs.recut_mode.cuts_of_parts.Goals as goal

pub loop-i-preserved : goal.loop-i-preserved
loop-i-preserved c =
    let made : ℕ → List ℕ = part_cutting (length c.args.net.now.cells) c.args.regions in
    let i : ℕ = c.loop-i.i in
    c.in_ok-push.ensures.items ∙ ap (λ l. l ++ c.in_ok-cut_of_part.field-0 ∷ []) c.loop-i.invariant ∙ ap (λ cut. map made (range_with_len 1 i) ++ cut ∷ []) c.in_ok-cut_of_part.ensures ∙
    sym (map-range_with_len_more made 1 i (i + 1) (omega arith))
