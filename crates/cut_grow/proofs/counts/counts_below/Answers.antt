use Rattle.std.specs.Prelude.{count_by, nat_lt, eqb}
use Rattle.std.proofs.Common.{◌≡◌, ℕ, ◌≤◌, ◌+◌, List, [], ◌∷◌, ◌++◌, length, get_or, inl, inr, arith, ap, sym, ◌∙◌}
use Rattle.std.proofs.lemmas.Bool.{cases_lt}
use Rattle.std.proofs.lemmas.List.{get_or_append_left, get_or_push, length_push}
use Rattle.std.proofs.lemmas.List.Sums.{count_by-le-length}
use Rattle.cut_grow.proofs.GainCounts.{below-next, none-below}
use Rattle.cut_grow.proofs.counts.counts_below.Goals as goal

pub loop-count-init : goal.loop-count-init
loop-count-init c = record {
  long = ap length c.new-below.ensures.items;
  each = λ q low. absurd (omega arith);
  total = sym (none-below c.args.numbers.now);
}

pub overflow_add-total : goal.overflow_add-total
overflow_add-total c =
    let k : ℕ = c.loop-count.count-index in
    let long : length c.deref-count-items.result.now ≡ c.args.bound + 1 = ap length c.deref-count-items.ensures.value ∙ c.in_ok-equal.ensures.long in
    let within : k ≤ c.args.bound = omega (arith, long, c.loop-count-test.true) in
    let equal : get_or c.deref-count-items.result.now k 0 ≡ count_by (λ number. eqb number k) c.args.numbers.now =
    ap (λ (items : List ℕ). get_or items k 0) c.deref-count-items.ensures.value ∙ c.in_ok-equal.ensures.each k within in
    omega (
      arith,
      equal,
      c.loop-count.invariant.total,
      below-next k c.args.numbers.now,
      count_by-le-length (λ number. nat_lt number (k + 1)) c.args.numbers.now,
    )

pub loop-count-preserved : goal.loop-count-preserved
loop-count-preserved c =
    let k : ℕ = c.loop-count.count-index in
    let numbers : List ℕ = c.args.numbers.now in
    let long : length c.deref-count-items.result.now ≡ c.args.bound + 1 = ap length c.deref-count-items.ensures.value ∙ c.in_ok-equal.ensures.long in
    let within : k ≤ c.args.bound = omega (arith, long, c.loop-count-test.true) in
    let equal : get_or c.deref-count-items.result.now k 0 ≡ count_by (λ number. eqb number k) numbers =
    ap (λ (items : List ℕ). get_or items k 0) c.deref-count-items.ensures.value ∙ c.in_ok-equal.ensures.each k within in
    let more : c.push.new.self.items ≡ c.loop-count.below.items ++ c.loop-count.total ∷ [] = c.in_ok-push.ensures.items in
    record {
      long = ap length more ∙ length_push c.loop-count.below.items c.loop-count.total ∙ ap (λ n. n + 1) c.loop-count.invariant.long;
      each = λ q low. elim (cases_lt q k) [
        | inl before ↦
            ap (λ items. get_or items q 0) more ∙
            get_or_append_left c.loop-count.below.items (c.loop-count.total ∷ []) 0 q (omega (arith, before, c.loop-count.invariant.long)) ∙ c.loop-count.invariant.each q before
        | inr last ↦
            let here : q ≡ k = omega (arith, low, last) in
            ap (λ items. get_or items q 0) more ∙ get_or_push c.loop-count.below.items c.loop-count.total 0 q (c.loop-count.invariant.long ∙ sym here) ∙
            c.loop-count.invariant.total ∙ ap (λ j. count_by (λ number. nat_lt number j) numbers) (sym here)
      ];
      total = omega (arith, equal, c.loop-count.invariant.total, below-next k numbers);
    }
