use Rattle.std.proofs.Common.{◌≡◌, ℕ, ◌+◌, ◌-◌, ap, arith, ◌∙◌}
use Rattle.cut_grow.specs.Most.{most, start_of}
use Rattle.cut_grow.specs.Spans.{inside}
use Rattle.cut_grow.proofs.MostRuns.{most-by}
use Rattle.cut_grow.proofs.table.most.Goals.{then-small-gt0, else-small-gt0, then-large-gt0, else-large-gt0}
use Rattle.cut_grow.proofs.table.most.Goals as goal

pub returns : goal.returns
returns c =
    let small_with : ℕ → ℕ = λ less. most c.args.gains.now.spans.items c.args.sizes.floor less c.args.large + inside c.args.gains.now.spans.items (start_of c.args.sizes.floor less c.args.large) c.args.sizes.floor in
    let large_with : ℕ → ℕ = λ less. most c.args.gains.now.spans.items c.args.sizes.floor c.args.small less + inside c.args.gains.now.spans.items (start_of c.args.sizes.floor c.args.small less) (c.args.sizes.floor + 1) in
    c.max.ensures ∙ most-by c.args.gains.now.spans.items c.args.sizes.floor c.args.small c.args.large c.if-small-gt0.by_small c.if-large-gt0.by_large
    (λ less is. elim c.if-small-gt0.branch [
      | then-small-gt0 w ↦ let one : c.args.small - 1 ≡ less = omega (arith, is) in w.by_small-is ∙ w.with_small-by_small.ensures ∙ ap small_with one
      | else-small-gt0 w ↦ absurd (omega (arith, is, w.if-small-gt0.false))
    ])
    (λ none. elim c.if-small-gt0.branch [
      | then-small-gt0 w ↦ absurd (omega (arith, none, w.if-small-gt0.true))
      | else-small-gt0 w ↦ w.by_small-is
    ])
    (λ less is. elim c.if-large-gt0.branch [
      | then-large-gt0 w ↦ let one : c.args.large - 1 ≡ less = omega (arith, is) in w.by_large-is ∙ w.with_large-by_large.ensures ∙ ap large_with one
      | else-large-gt0 w ↦ absurd (omega (arith, is, w.if-large-gt0.false))
    ])
    (λ none. elim c.if-large-gt0.branch [
      | then-large-gt0 w ↦ absurd (omega (arith, none, w.if-large-gt0.true))
      | else-large-gt0 w ↦ w.by_large-is
    ])
