use Rattle.std.specs.Prelude.{replicate}
use Rattle.std.proofs.Common.{◌≡◌, ℕ, ◌+◌, ◌-◌, List, ◌++◌, length, get_or, take, ap, arith, sym, ◌∙◌}
use Rattle.std.proofs.lemmas.List.{length-take-le, take_all, take_more}
use Rattle.cut_grow.specs.Grown.{runs_from}
use Rattle.cut_grow.proofs.RunNumbers.{runs_from-push}
use Rattle.cut_grow.proofs.runs.runs.Goals as goal

pub loop-r-preserved : goal.loop-r-preserved
loop-r-preserved c =
    let r : ℕ = c.loop-r.r in
    let size : ℕ = get_or c.args.sizes.now r 0 in
    let before : List ℕ = take r c.args.sizes.now in
    let kept : take (c.len.result + size) c.loop-r.runs.items ≡ c.loop-r.runs.items = take_all (c.len.result + size) c.loop-r.runs.items (omega (arith, c.len.ensures, c.loop-r.runs.ok.0)) in
    let amount : c.len.result + size - c.loop-r.runs.len ≡ size = omega (arith, c.len.ensures) in
    let number : r ≡ 0 + length before = omega (arith, length-take-le r c.args.sizes.now (omega arith)) in
    c.in_ok-resize.ensures.items ∙
    ap (λ front. front ++ replicate (c.len.result + size - c.loop-r.runs.len) r) kept ∙
    ap (λ n. c.loop-r.runs.items ++ replicate n r) amount ∙
    ap (λ front. front ++ replicate size r) c.loop-r.invariant ∙
    ap (λ n. runs_from 0 before ++ replicate size n) number ∙
    sym (runs_from-push 0 before size) ∙ ap (runs_from 0) (sym (take_more c.args.sizes.now r 0 c.loop-r-test.true))
