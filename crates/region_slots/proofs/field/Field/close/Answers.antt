use Rattle.std.specs.Prelude.{slice_index, slice_index_or}
use Rattle.std.specs.List.{range_with_len}
use Rattle.std.specs.Mem.Slots.{slots_filled, slots_items}
use Rattle.std.proofs.Common.{◌≡◌, ◌<◌, ℕ, List, [], ◌∷◌, ◌++◌, false, map, length, inl, inr, arith, ap, sym, subst, ◌∙◌}
use Rattle.std.proofs.lemmas.Bool.{cases_eq}
use Rattle.std.proofs.lemmas.List.{get_or-set_other, take_all}
use Rattle.std.proofs.lemmas.List.FromFn.{length-map-range_with_len, map-range_with_len_more}
use mathlib.Core.Option.{some}
use lib.ListN.{get_elem?}
use Rattle.region_cut.specs.Chart.{ChartLists}
use Rattle.region_cut.specs.Cuttings.{region_count}
use Rattle.region_step.specs.Region.{RegionValue}
use Rattle.border_rows.specs.Places.{step_place, widths_of}
use Rattle.border_rows.specs.Words.{step_of, steps_of}
use Rattle.border_rows.specs.declared.view.Terms.{Terms}
use Rattle.border_rows.specs.declared.view.View.{View}
use Rattle.region_slots.proofs.Closing.{IsClosed, closing, get_or-elem, off-here, take-more}
use Rattle.region_slots.proofs.field.Field.close.Goals as goal

pub push_reserved-requires : goal.push_reserved-requires
push_reserved-requires c =
    let chart : ChartLists = c.self.inside.layout.now.chart in
    let words : List ℕ = slots_items c.close_with-closed.result.words in
    let long : length c.loop-r.steps.items ≡ c.loop-r.r = ap length c.loop-r.invariant.1 ∙ length-map-range_with_len (step_of chart words) 0 c.loop-r.r in
    omega (arith, long, c.loop-r.steps.ok, c.loop-r.invariant.3, c.loop-r-test.true, c.regions.ensures.count)

pub loop-r-preserved : goal.loop-r-preserved
loop-r-preserved c =
    let chart : ChartLists = c.self.inside.layout.now.chart in
    let words : List ℕ = slots_items c.close_with-closed.result.words in
    let regions : List RegionValue = slots_items c.close_with-closed.result.slots in
    let r : ℕ = c.loop-r.r in
    let inv = c.loop-r.invariant in
    let below : r < region_count chart.cut = omega (arith, c.loop-r-test.true, c.regions.ensures.count) in
    let place : c.step-word.result ≡ step_place (widths_of chart) r = c.step-word.ensures.place ∙ ap (λ widths. step_place widths r) c.self.invariant.2 in
    let found : c.word.result ≡ step_of chart words r =
    sym (get_or-elem words c.step-word.result c.word.result 0 (ap (λ row. get_elem? (slots_items row) c.step-word.result) (sym inv.5) ∙ c.word.ensures)) ∙ ap (slice_index words) place in
    let taken : get_elem? regions r ≡ some c.take.result = ap (λ l. get_elem? l r) (sym inv.6) ∙ c.take.ensures.value in
    let off = c.take.ensures.others.1 in (
      omega (arith, below),
      c.push_reserved.ensures.items ∙ ap (λ l. l ++ c.word.result ∷ []) inv.1 ∙ ap (λ n. map (step_of chart words) (range_with_len 0 r) ++ n ∷ []) found ∙
          sym (map-range_with_len_more (step_of chart words) 0 r r (omega arith)),
      c.push_reserved-in-loop-r.ensures.items ∙ ap (λ l. l ++ c.take.result ∷ []) inv.2 ∙ sym (take-more regions r c.take.result taken),
      omega (arith, inv.3, c.push_reserved.ensures.capacity),
      omega (arith, inv.4, c.push_reserved-in-loop-r.ensures.capacity),
      c.take.ensures.others.3 ∙ inv.5,
      c.take.ensures.others.0 ∙ inv.6,
      c.take.ensures.others.2 ∙ inv.7,
      λ k from to.
          ap (λ l. slice_index_or l k false) off ∙ get_or-set_other (slots_filled c.loop-r.closed.slots) r k false false (λ same. omega (arith, same, from)) ∙
          inv.8 k (omega (arith, from)) (omega (arith, to, c.take.ensures.others.2)),
      λ k within. elim (cases_eq k r) [
        | inl same ↦ subst (λ q. slice_index_or (slots_filled c.take.new.self.slots) q false ≡ false) (sym same)
            (ap (λ l. slice_index_or l r false) off ∙ off-here (slots_filled c.loop-r.closed.slots) r)
        | inr other ↦
            ap (λ l. slice_index_or l k false) off ∙ get_or-set_other (slots_filled c.loop-r.closed.slots) r k false false other ∙ inv.9 k (omega (arith, other, within))
      ],
    )

-- what is said of the regions once all are taken
closed : (c : goal.After-drop-places-inside) → IsClosed c.args.self.terms c.args.pass.knows c.loop-r.steps.items c.loop-r.regions.items
closed c =
    let terms : Terms = c.self.inside.table.shared.key in
    let view : View = c.pass.inside.seat.me.0 in
    let words : List ℕ = slots_items c.close_with-closed.result.words in
    let regions : List RegionValue = slots_items c.close_with-closed.result.slots in
    let inv = c.loop-r.invariant in
    let same_terms : terms ≡ c.args.self.terms = ap (λ field. field.terms) c.self.view_is in
    let knows : view ≡ c.args.pass.knows = ap (λ pass. pass.knows) c.pass.view_is in
    let chart : terms.setup.now.chart ≡ c.self.inside.layout.now.chart = c.self.invariant.1 in
    let all : view.share ≡ terms.seats = ap (λ (v : View). v.share) knows ∙ c.requires.whole ∙ ap (λ (t : Terms). t.seats) (sym same_terms) in
    let is : IsClosed terms view (steps_of terms.setup.now.chart words) regions =
    closing terms c.pass.inside.seat.id view words regions all c.pass.invariant.holds c.close_with-closed.ensures.values.2 in
    let count : c.loop-r.r ≡ region_count terms.setup.now.chart.cut =
    omega (arith, c.loop-r-test.false, c.regions.ensures.count, inv.0, ap (λ (chart : ChartLists). region_count chart.cut) chart) in
    let steps : c.loop-r.steps.items ≡ steps_of terms.setup.now.chart words =
    inv.1 ∙ ap (λ (chart : ChartLists). map (step_of chart words) (range_with_len 0 c.loop-r.r)) (sym chart) ∙ ap (λ n. map (step_of terms.setup.now.chart words) (range_with_len 0 n)) count in
    let items : c.loop-r.regions.items ≡ regions = inv.2 ∙ take_all c.loop-r.r regions (omega (arith, count, is.come.stand.one_each)) in
    subst (λ (t : Terms). IsClosed t c.args.pass.knows c.loop-r.steps.items c.loop-r.regions.items) same_terms
    (subst (λ (v : View). IsClosed terms v c.loop-r.steps.items c.loop-r.regions.items) knows
    (subst (λ l. IsClosed terms view l c.loop-r.regions.items) (sym steps) (subst (λ l. IsClosed terms view (steps_of terms.setup.now.chart words) l) (sym items) is)))

pub returns-clause-come : goal.returns-clause-come
returns-clause-come c = (closed c).come

pub returns-clause-later : goal.returns-clause-later
returns-clause-later c = (closed c).later

pub returns-clause-reached : goal.returns-clause-reached
returns-clause-reached c = (closed c).reached

pub returns-clause-moves : goal.returns-clause-moves
returns-clause-moves c = (closed c).moves

pub returns-clause-logged : goal.returns-clause-logged
returns-clause-logged c = (closed c).logged
