use Rattle.std.proofs.Common.{ap, ◌∙◌}
use Rattle.region_cut.proofs.Membership.{region_at-there}
use Rattle.delay_report.proofs.ByRegion.{note-found, note-inside}
use Rattle.delay_report.proofs.by_cell.ByCell.note.Goals as goal

pub cells-cells-requires : goal.cells-cells-requires
cells-cells-requires c = rw c.region_of.ensures (region_at-there c.layout-layout.result.now.chart.cut c.args.i)

pub note_in-requires : goal.note_in-requires
note_in-requires c =
    let chart = c.layout-layout.ensures.chart ∙ ap (λ setup. setup.chart) c.setup.ensures.setup ∙ ap (λ now. now.setup.chart) c.self.view_is in
    rw (c.trail.ensures, c.cells-cells.ensures.list, c.region_of.ensures, chart)
    (note-inside c.args.self.now.setup c.args.k c.args.i c.find-place.result.1 _ c.find-place.ensures.region c.find-place.ensures.place c.requires.from_zero c.requires.noted)

pub returns : goal.returns
returns c =
    let chart = c.layout-layout.ensures.chart ∙ ap (λ setup. setup.chart) c.setup.ensures.setup ∙ ap (λ now. now.setup.chart) c.self.view_is in
    rw (c.trail.ensures, c.cells-cells.ensures.list, c.region_of.ensures, chart) at c.note_in.ensures ∙
    note-found c.args.self.now.setup c.args.k c.args.i c.find-place.result.1 _ c.find-place.ensures.region c.find-place.ensures.place c.requires.from_zero c.requires.noted
