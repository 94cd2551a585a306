use Rattle.std.proofs.Common.{◌∙◌}
use Rattle.delay_report.proofs.ByRegion.{row-found, row-inside}
use Rattle.delay_report.proofs.by_cell.ByCell.row.Goals as goal

pub row-requires : goal.row-requires
row-requires c = row-inside c.args.self.now.setup c.args.i c.find-place.result.1 _ c.find-place.ensures.region c.find-place.ensures.place

pub returns : goal.returns
returns c = c.row.ensures ∙ row-found c.args.self.now.setup c.args.i c.find-place.result.1 _ c.find-place.ensures.region c.find-place.ensures.place
