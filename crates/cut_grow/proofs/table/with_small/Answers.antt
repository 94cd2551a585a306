use Rattle.std.proofs.Common.{◌≡◌, ℕ, ◌<◌, ◌≤◌, ◌+◌, ◌*◌, ◌^◌, length, get_or, mul-le-mul, ap, arith, ◌∙◌}
use Rattle.std.proofs.lemmas.List.{get_or_default}
use Rattle.std.proofs.lemmas.List.Sums.{count_by-le-length}
use Rattle.cut_grow.specs.Most.{start_of}
use Rattle.cut_grow.specs.Spans.{inside, is_inside}
use Rattle.cut_grow.proofs.MostRuns.{most-few}
use Rattle.cut_grow.proofs.Tabling.{start-small}
use Rattle.cut_grow.proofs.table.with_small.Goals as goal

pub overflow_add-result-3 : goal.overflow_add-result-3
overflow_add-result-3 c =
    let floor : ℕ = c.args.sizes.floor in
    let start : ℕ = start_of floor c.args.small c.args.large in
    let below : start + floor ≤ length c.args.gains.now.small.items =
    omega (arith, start-small c.args.sizes c.args.small c.args.large c.requires.small c.requires.large, c.requires.gains.whole) in
    let there : start < length c.args.gains.now.small.items = omega (arith, below, c.requires.gains.some) in
    let entry = c.requires.table.each c.args.small c.args.large (omega arith) c.requires.large c.requires.there in
    let gain : c.index-gain.result.now ≡ inside c.args.gains.now.spans.items start floor =
    c.index-gain.ensures ∙ ap (λ p. get_or c.args.gains.now.small.items p c.index-gain.result.now) c.start.ensures ∙
    get_or_default c.args.gains.now.small.items start c.index-gain.result.now 0 there ∙ c.requires.gains.small.each start there in
    let few : (c.args.small + c.args.large) * length c.args.gains.now.spans.items ≤ 512 * 2 ^ 32 =
    mul-le-mul {n₁ = c.args.small + c.args.large} {m₁ = length c.args.gains.now.spans.items} {n₂ = 512} {m₂ = 2 ^ 32} (omega (arith, c.requires.gains.few_runs)) (omega (arith, c.requires.gains.few_spans)) in
    omega (
      arith,
      entry,
      gain,
      few,
      most-few c.args.gains.now.spans.items floor c.args.small c.args.large,
      count_by-le-length (is_inside start floor) c.args.gains.now.spans.items,
      c.requires.gains.few_spans,
    )

pub returns : goal.returns
returns c =
    let floor : ℕ = c.args.sizes.floor in
    let start : ℕ = start_of floor c.args.small c.args.large in
    let below : start + floor ≤ length c.args.gains.now.small.items =
    omega (arith, start-small c.args.sizes c.args.small c.args.large c.requires.small c.requires.large, c.requires.gains.whole) in
    let there : start < length c.args.gains.now.small.items = omega (arith, below, c.requires.gains.some) in
    let entry = c.requires.table.each c.args.small c.args.large (omega arith) c.requires.large c.requires.there in
    let gain : c.index-gain.result.now ≡ inside c.args.gains.now.spans.items start floor =
    c.index-gain.ensures ∙ ap (λ p. get_or c.args.gains.now.small.items p c.index-gain.result.now) c.start.ensures ∙
    get_or_default c.args.gains.now.small.items start c.index-gain.result.now 0 there ∙ c.requires.gains.small.each start there in
    omega (arith, entry, gain)
