use Rattle.std.specs.Prelude.{slice_index_or}
use Rattle.std.proofs.Common.{◌≡◌, ap, arith, length, subst, sym, ◌∙◌}
use Rattle.region_cut.specs.Cuttings.{region_at}
use Rattle.region_cut.proofs.Membership.{region_at-there}
use Rattle.region_step.specs.Regions.{RegionsValue}
use Rattle.region_step.specs.Standing.{Stands}
use Rattle.delay_report.specs.Places.{IsCellPlace}
use Rattle.delay_report.proofs.ByRegion.{cell-place}
use Rattle.delay_report.proofs.LastRegions.{at_last}
use Rattle.delay_report.proofs.by_cell.ByCell.find.Goals as goal

pub bounds-list-q : goal.bounds-list-q
bounds-list-q c =
    let chart = c.layout.ensures.chart ∙ ap (λ setup. setup.chart) c.setup.ensures.setup in
    omega (arith, rw chart at c.region_of-q.ensures, region_at-there c.self.inside.regions.now.setup.chart.cut c.args.i, c.setup.ensures.come.stand.one_each, ap length c.list.ensures)

pub returns : goal.returns
returns c =
    let regions : RegionsValue = c.self.inside.regions.now in
    let chart = c.layout.ensures.chart ∙ ap (λ setup. setup.chart) c.setup.ensures.setup in
    let number : c.region_of-q.result ≡ region_at regions.setup.chart.cut c.args.i = rw chart at c.region_of-q.ensures in
    let found : c.index-list-q.result ≡ slice_index_or regions.list (region_at regions.setup.chart.cut c.args.i) c.index-list-q.result =
    c.index-list-q.is ∙ ap (λ list. slice_index_or list c.region_of-q.result c.index-list-q.result) c.list.ensures ∙ ap (λ q. slice_index_or regions.list q c.index-list-q.result) number in
    let there = rw (sym c.self.view_is) at c.requires in
    record {
      region = subst (λ (now : RegionsValue). Stands now.setup (region_at now.setup.chart.cut c.args.i) now.setup.net.steps c.index-list-q.result) c.self.view_is
          (subst (Stands regions.setup (region_at regions.setup.chart.cut c.args.i) regions.setup.net.steps) (sym found)
          (at_last regions (region_at regions.setup.chart.cut c.args.i) c.index-list-q.result c.setup.ensures.come c.self.invariant.0 (region_at-there regions.setup.chart.cut c.args.i)));
      place = subst (λ (now : RegionsValue). IsCellPlace now.setup.chart c.args.i c.index.result.now) c.self.view_is
          (cell-place regions.setup.chart (length regions.setup.chart.cut) c.self.inside.places.items c.args.i c.index.result.now c.self.invariant.1 there c.index.ensures);
    }
