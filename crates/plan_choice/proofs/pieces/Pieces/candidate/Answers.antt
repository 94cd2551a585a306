use Rattle.std.specs.Prelude.{slice_index_or}
use Rattle.std.proofs.Common.{◌<◌, ◌++◌, Bor, List, [], ap, arith, length, sym, ℕ, ◌∙◌}
use Rattle.std.proofs.lemmas.List.{get_or-map, length-map}
use Rattle.plan_choice.proofs.pieces.Pieces.candidate.Goals as goal

pub returns : goal.returns
returns c =
    let base : List ℕ = c.self.inside.base.now in
    let plans : List (Bor (List ℕ)) = c.self.inside.plans.items in
    let file : Bor (List ℕ) → List ℕ = λ plan. base ++ plan.now in
    let there : c.args.p < length plans = omega (arith, c.requires, ap length c.self.view_is, length-map plans file) in
    c.in_ok-extend_from_slice-2.ensures.items ∙ ap (λ front. front ++ c.index.result.now.now) (c.in_ok-extend_from_slice.ensures.items ∙ ap (λ front. front ++ base) c.new-file.ensures.items) ∙
    ap file c.index.ensures ∙ sym (get_or-map file plans c.args.p c.index.result.now [] there) ∙ ap (λ files. slice_index_or files c.args.p []) c.self.view_is
