use Rattle.std.proofs.Common.{◌≡◌, ◌<◌, inl, inr, [], ◌∷◌, ◌++◌, length, arith, ap, refl, subst, sym, ◌∙◌}
use Rattle.std.specs.Prelude.{slice_index, ◌==◌}
use Rattle.std.proofs.Math.Seq.{get_or-append_seam}
use Rattle.std.proofs.lemmas.Bool.{cases_lt, eq-eqb}
use Rattle.std.proofs.lemmas.List.{get_or_append_left, length-append}
use Rattle.network_file.specs.Sound.{IsNetwork}
use Rattle.region_cut.specs.Chart.{list_at}
use Rattle.region_cut.specs.Cuttings.{region_at, region_count}
use Rattle.region_cut.proofs.Anys.{finds}
use Rattle.region_cut.proofs.Membership.{place-in, region_at-there}
use Rattle.region_step.proofs.Ground.{ground}
use Rattle.delay_report.specs.Places.{IsCellPlace}
use Rattle.delay_report.proofs.cell_places.cell_places.Goals as goal

pub cells-cells-requires : goal.cells-cells-requires
cells-cells-requires c = subst (λ q. q < region_count c.args.layout.now.chart.cut) (sym c.region_of.ensures) (region_at-there c.args.layout.now.chart.cut c.loop-i.i)

pub place-requires-clause-few : goal.place-requires-clause-few
place-requires-clause-few c =
    let within = subst (λ q. q < region_count c.args.layout.now.chart.cut) (sym c.region_of.ensures) (region_at-there c.args.layout.now.chart.cut c.loop-i.i) in
    let lists = ground c.args.layout.now.net c.args.layout.now.chart.cut c.args.layout.now.chart c.region_of.result (subst IsNetwork (c.net.view_is ∙ c.net-net.ensures.network) c.net.invariant) c.net-net.ensures.charted within in
    omega (arith, ap length c.cells-cells.ensures.list, lists.few)

pub place-requires-clause-increasing : goal.place-requires-clause-increasing
place-requires-clause-increasing c =
    let within = subst (λ q. q < region_count c.args.layout.now.chart.cut) (sym c.region_of.ensures) (region_at-there c.args.layout.now.chart.cut c.loop-i.i) in
    let lists = ground c.args.layout.now.net c.args.layout.now.chart.cut c.args.layout.now.chart c.region_of.result (subst IsNetwork (c.net.view_is ∙ c.net-net.ensures.network) c.net.invariant) c.net-net.ensures.charted within in
    rw c.cells-cells.ensures.list lists.apart.rising

pub place-requires-clause-listed : goal.place-requires-clause-listed
place-requires-clause-listed c =
    let within = subst (λ q. q < region_count c.args.layout.now.chart.cut) (sym c.region_of.ensures) (region_at-there c.args.layout.now.chart.cut c.loop-i.i) in
    let lists = ground c.args.layout.now.net c.args.layout.now.chart.cut c.args.layout.now.chart c.region_of.result (subst IsNetwork (c.net.view_is ∙ c.net-net.ensures.network) c.net.invariant) c.net-net.ensures.charted within in
    let cells : length c.net.inside.cells.items ≡ length c.args.layout.now.net.cells = ap (λ net. length net.cells) (c.net.view_is ∙ c.net-net.ensures.network) in
    let there : c.loop-i.i < length c.args.layout.now.net.cells = omega (arith, c.loop-i-test.true, c.len-i-end.ensures, c.net.inside.cells.ok.0, cells) in
    rw c.cells-cells.ensures.list (finds (λ j. j == c.loop-i.i) (list_at c.args.layout.now.chart.cells c.region_of.result) c.loop-i.i (lists.has c.loop-i.i there (sym c.region_of.ensures)) (eq-eqb c.loop-i.i c.loop-i.i refl))

pub loop-i-preserved : goal.loop-i-preserved
loop-i-preserved c =
    let cut = c.args.layout.now.chart.cut in
    let i = c.loop-i.i in
    let lists = ground c.args.layout.now.net cut c.args.layout.now.chart (region_at cut i) (subst IsNetwork (c.net.view_is ∙ c.net-net.ensures.network) c.net.invariant) c.net-net.ensures.charted (region_at-there cut i) in
    let cells : length c.net.inside.cells.items ≡ length c.args.layout.now.net.cells = ap (λ net. length net.cells) (c.net.view_is ∙ c.net-net.ensures.network) in
    let there : i < length c.args.layout.now.net.cells = omega (arith, c.loop-i-test.true, c.len-i-end.ensures, c.net.inside.cells.ok.0, cells) in
    let stands = place-in (list_at c.args.layout.now.chart.cells (region_at cut i)) i lists.apart.rising (lists.has i there refl) in
    let found = rw (c.cells-cells.ensures.list, c.region_of.ensures) at c.place.ensures in
    let placed : IsCellPlace c.args.layout.now.chart i c.place.result = rw found (record { inside = stands.0; cell = stands.1 }) in
    let more : c.push.new.self.items ≡ c.loop-i.places.items ++ c.place.result ∷ [] = c.in_ok-push.ensures.items in
    record {
      one_each = omega (arith, ap length more, length-append c.loop-i.places.items (c.place.result ∷ []), c.loop-i.invariant.one_each);
      each = λ k within. elim (cases_lt k i) [
        | inl before ↦
            subst (IsCellPlace c.args.layout.now.chart k)
            (sym (ap (λ items. slice_index items k) more ∙ get_or_append_left c.loop-i.places.items (c.place.result ∷ []) 0 k (omega (arith, before, c.loop-i.invariant.one_each))))
            (c.loop-i.invariant.each k before)
        | inr last ↦
            let here : k ≡ length c.loop-i.places.items = omega (arith, within, last, c.loop-i.invariant.one_each) in
            let same : k ≡ i = omega (arith, within, last) in
            subst (IsCellPlace c.args.layout.now.chart k)
            (sym (ap (λ items. slice_index items k) more ∙ ap (slice_index (c.loop-i.places.items ++ c.place.result ∷ [])) here ∙ get_or-append_seam c.loop-i.places.items c.place.result [] 0))
            (subst (λ j. IsCellPlace c.args.layout.now.chart j c.place.result) (sym same) placed)
      ];
    }
