use Rattle.std.specs.Prelude.{not, ◌==◌}
use Rattle.std.specs.List.{position_or_len}
use Rattle.std.proofs.Common.{◌≡◌, ℕ, true, [], ◌∷◌, ◌++◌, get_or, map, take, refl, sym, ap, ◌∙◌}
use Rattle.std.proofs.lemmas.Bool.{eq-eqb}
use Rattle.region_cut.specs.Cuttings.{region_at}
use Rattle.region_cut.specs.Gathered.{outside, placed}
use Rattle.region_cut.proofs.Anys.{apart, not_false}
use Rattle.region_cut.proofs.Filters.{filter_keeps, filter_skips}
use Rattle.region_cut.proofs.halo_lists.halo.Goals.{then-region-r+in_ok-push, else-region-r}
use Rattle.region_cut.proofs.halo_lists.halo.Goals as goal

pub loop-cell-preserved : goal.loop-cell-preserved
loop-cell-preserved c =
    let i : ℕ = get_or c.args.met.now c.loop-cell.cell-index 0 in
    elim c.if-region-r.branch [
      | then-region-r+in_ok-push w ↦
          let other : not (region_at c.args.cut.now i == c.args.r) ≡ true = not_false _ (apart _ _ w.if-region-r.true) in
          let place = w.place.ensures ∙ ap (position_or_len (λ j. j == i)) w.at.ensures in
          let same : record { cell = i; region = region_at c.args.cut.now i; place = w.place.result } ≡ placed c.args.cut.now c.args.border.now i =
          ap (λ n. record { cell = i; region = region_at c.args.cut.now i; place = n }) place in
          rw (w.halo-is, w.in_ok-push.ensures.items) (
          ap (λ front. front ++ record { cell = i; region = region_at c.args.cut.now i; place = w.place.result } ∷ []) c.loop-cell.invariant ∙
          ap (λ halo. map (placed c.args.cut.now c.args.border.now) (outside c.args.cut.now c.args.r (take c.loop-cell.cell-index c.args.met.now)) ++ halo ∷ []) same ∙
          sym (filter_keeps (placed c.args.cut.now c.args.border.now) (λ j. not (region_at c.args.cut.now j == c.args.r)) c.args.met.now c.loop-cell.cell-index 0 c.loop-cell-test.true other)
          )
      | else-region-r w ↦
          let own : (region_at c.args.cut.now i == c.args.r) ≡ true = eq-eqb _ _ w.if-region-r.false in
          rw w.halo-is (
          c.loop-cell.invariant ∙
          sym (filter_skips (placed c.args.cut.now c.args.border.now) (λ j. not (region_at c.args.cut.now j == c.args.r)) c.args.met.now c.loop-cell.cell-index 0 c.loop-cell-test.true (rw own refl))
          )
    ]
