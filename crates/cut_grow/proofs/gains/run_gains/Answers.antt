use Rattle.std.specs.Prelude.{All, count_by, map, nat_lt}
use Rattle.std.proofs.Common.{◌≡◌, ℕ, ◌<◌, ◌≤◌, ◌+◌, ◌-◌, [], ◌∷◌, ◌++◌, length, get_or, inl, inr, arith, ap, subst, sym, ◌∙◌}
use Rattle.std.proofs.lemmas.Bool.{cases_lt}
use Rattle.std.proofs.lemmas.List.{get_or_append_left, get_or_default, get_or_push, length_push}
use Rattle.std.proofs.lemmas.List.Elements.{All-map, All-weaker}
use Rattle.cut_grow.specs.Counts.{begin_of}
use Rattle.cut_grow.specs.Spans.{inside}
use Rattle.cut_grow.specs.declared.span.Span.{Span}
use Rattle.cut_grow.proofs.GainCounts.{gain-counts}
use Rattle.cut_grow.proofs.gains.run_gains.Goals.{After-index-in-loop-place}
use Rattle.cut_grow.proofs.gains.run_gains.Goals as goal

pub counts_below-requires-clause-bounded : goal.counts_below-requires-clause-bounded
counts_below-requires-clause-bounded c =
    let is : c.deref.result.now ≡ map (begin_of c.args.size) c.args.spans.now = c.deref.ensures.value ∙ c.in_ok-begins.ensures in
    subst (All (λ number. number ≤ c.args.cells)) (sym is)
    (All-map (λ number. number ≤ c.args.cells) (begin_of c.args.size) c.args.spans.now
    (All-weaker (λ span. (span.first < c.args.cells) × (span.last < c.args.cells)) (λ span. begin_of c.args.size span ≤ c.args.cells) (λ span both. omega (arith, both.0)) c.args.spans.now c.requires.within))

pub counts_below-requires-2-clause-bounded : goal.counts_below-requires-2-clause-bounded
counts_below-requires-2-clause-bounded c =
    let first : Span → ℕ = λ span. span.first in
    let is : c.deref-2.result.now ≡ map first c.args.spans.now = c.deref-2.ensures.value ∙ c.in_ok-firsts.ensures in
    subst (All (λ number. number ≤ c.args.cells)) (sym is)
    (All-map (λ number. number ≤ c.args.cells) first c.args.spans.now
    (All-weaker (λ span. (span.first < c.args.cells) × (span.last < c.args.cells)) (λ span. span.first ≤ c.args.cells) (λ span both. omega (arith, both.0)) c.args.spans.now c.requires.within))

-- what the two counts say of the spans inside
gained : (c : After-index-in-loop-place) → c.index.result.now ≡ inside c.args.spans.now c.loop-place.place c.args.size + c.index-in-loop-place.result.now
gained c =
    let place : ℕ = c.loop-place.place in
    let first : Span → ℕ = λ span. span.first in
    let begins : c.deref.result.now ≡ map (begin_of c.args.size) c.args.spans.now = c.deref.ensures.value ∙ c.in_ok-begins.ensures in
    let firsts : c.deref-2.result.now ≡ map first c.args.spans.now = c.deref-2.ensures.value ∙ c.in_ok-firsts.ensures in
    let begun : c.index.result.now ≡ count_by (λ number. nat_lt number (place + 1)) (map (begin_of c.args.size) c.args.spans.now) =
    c.index.ensures ∙ get_or_default c.in_ok-begun.begun.items (place + 1) c.index.result.now 0 (omega (arith, c.in_ok-begun.ensures.long)) ∙
    c.in_ok-begun.ensures.each (place + 1) (omega arith) ∙ ap (count_by (λ number. nat_lt number (place + 1))) begins in
    let passed : c.index-in-loop-place.result.now ≡ count_by (λ number. nat_lt number place) (map first c.args.spans.now) =
    c.index-in-loop-place.ensures ∙ get_or_default c.in_ok-passed.passed.items place c.index-in-loop-place.result.now 0 (omega (arith, c.in_ok-passed.ensures.long)) ∙
    c.in_ok-passed.ensures.each place (omega arith) ∙ ap (count_by (λ number. nat_lt number place)) firsts in
    omega (arith, begun, passed, gain-counts c.args.spans.now c.args.size place)

pub overflow_sub-index : goal.overflow_sub-index
overflow_sub-index c = omega (arith, gained (goal.at.overflow_sub-index c).After-index-in-loop-place)

pub loop-place-preserved : goal.loop-place-preserved
loop-place-preserved c =
    let place : ℕ = c.loop-place.place in
    let gain : ℕ = c.index.result.now - c.index-in-loop-place.result.now in
    let is : gain ≡ inside c.args.spans.now place c.args.size = omega (arith, gained (goal.at.loop-place-preserved c).After-index-in-loop-place) in
    let more : c.push.new.self.items ≡ c.loop-place.gains.items ++ gain ∷ [] = c.in_ok-push.ensures.items in
    record {
      long = ap length more ∙ length_push c.loop-place.gains.items gain ∙ ap (λ n. n + 1) c.loop-place.invariant.long;
      each = λ p low. elim (cases_lt p place) [
        | inl before ↦
            ap (λ items. get_or items p 0) more ∙
            get_or_append_left c.loop-place.gains.items (gain ∷ []) 0 p (omega (arith, before, c.loop-place.invariant.long)) ∙ c.loop-place.invariant.each p before
        | inr last ↦
            let here : p ≡ place = omega (arith, low, last) in
            ap (λ items. get_or items p 0) more ∙ get_or_push c.loop-place.gains.items gain 0 p (c.loop-place.invariant.long ∙ sym here) ∙ is ∙
            ap (λ q. inside c.args.spans.now q c.args.size) (sym here)
      ];
    }
