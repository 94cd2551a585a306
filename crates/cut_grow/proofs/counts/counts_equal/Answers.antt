use Rattle.std.specs.Prelude.{eqb}
use Rattle.std.proofs.Common.{◌≡◌, ℕ, ◌<◌, ◌≤◌, ◌+◌, length, get_or, set, take, arith, ap, ◌∙◌}
use Rattle.std.proofs.lemmas.List.{get_or_default, length-set, length-take-le}
use Rattle.std.proofs.lemmas.List.Sums.{count_by-le-length}
use Rattle.cut_grow.proofs.GainCounts.{equal-more}
use Rattle.cut_grow.proofs.counts.counts_equal.Goals as goal

pub overflow_add-index_mut : goal.overflow_add-index_mut
overflow_add-index_mut c =
    let k : ℕ = c.loop-number.number-index in
    let number : ℕ = get_or c.args.numbers.now k 0 in
    let bounded : number ≤ c.args.bound = c.requires.bounded k 0 c.loop-number-test.true in
    let there : number < length c.loop-number.counts.items = omega (arith, c.loop-number.invariant.long) in
    let value : c.index_mut.result.now ≡ get_or c.loop-number.counts.items number 0 =
    c.index_mut.ensures.value ∙ get_or_default c.loop-number.counts.items number c.index_mut.result.now 0 there in
    omega (
      arith,
      value,
      c.loop-number.invariant.each number bounded,
      count_by-le-length (λ n. eqb n number) (take k c.args.numbers.now),
      length-take-le k c.args.numbers.now (omega arith),
    )

pub loop-number-preserved : goal.loop-number-preserved
loop-number-preserved c =
    let k : ℕ = c.loop-number.number-index in
    let number : ℕ = get_or c.args.numbers.now k 0 in
    let bounded : number ≤ c.args.bound = c.requires.bounded k 0 c.loop-number-test.true in
    let there : number < length c.loop-number.counts.items = omega (arith, c.loop-number.invariant.long) in
    let value : c.index_mut.result.now ≡ get_or c.loop-number.counts.items number 0 =
    c.index_mut.ensures.value ∙ get_or_default c.loop-number.counts.items number c.index_mut.result.now 0 there in
    record {
      long = length-set c.loop-number.counts.items number (c.index_mut.result.now + 1) ∙ c.loop-number.invariant.long;
      each = λ p below.
          ap (λ n. get_or (set c.loop-number.counts.items number (n + 1)) p 0) value ∙
          equal-more c.args.numbers.now c.loop-number.counts.items k p c.loop-number-test.true there (c.loop-number.invariant.each p below);
    }
