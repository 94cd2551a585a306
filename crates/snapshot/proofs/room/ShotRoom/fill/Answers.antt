use Rattle.std.specs.Prelude.{slice_index}
use Rattle.std.proofs.Common.{◌≡◌, ◌+◌, ◌<◌, ℕ, List, length, set, sym, ap, subst, ◌∙◌, arith}
use Rattle.flow_model.specs.declared.row.Row.{Row}
use Rattle.region_cut.specs.Chart.{list_at}
use Rattle.snapshot.proofs.Filling.{Fills, fills-more, place-le}
use Rattle.snapshot.proofs.room.ShotRoom.fill.Goals as goal

pub overflow_cast-place : goal.overflow_cast-place
overflow_cast-place c =
    let list : c.cells-cells.result.now ≡ list_at c.args.layout.now.chart.cells c.args.region.now.state.number = c.cells-cells.ensures.list ∙ ap (list_at c.args.layout.now.chart.cells) c.number.ensures in
    let within : c.loop-p.p < length (list_at c.args.layout.now.chart.cells c.args.region.now.state.number) = omega (arith, c.loop-p-test.true, ap length list) in
    let low = place-le (list_at c.args.layout.now.chart.cells c.args.region.now.state.number) (c.regions-regions.ensures.sound.regions c.args.region.now.state.number c.requires.region.there).cells c.loop-p.p within in
    record { fits = omega (arith, low, ap (λ l. slice_index l c.loop-p.p) list, (c.type_inv.cells c.loop-p.p).fits) }

pub loop-p-preserved : goal.loop-p-preserved
loop-p-preserved c =
    let number : ℕ = c.args.region.now.state.number in
    let list : c.cells-cells.result.now ≡ list_at c.args.layout.now.chart.cells number = c.cells-cells.ensures.list ∙ ap (list_at c.args.layout.now.chart.cells) c.number.ensures in
    let within : c.loop-p.p < length (list_at c.args.layout.now.chart.cells number) = omega (arith, c.loop-p-test.true, ap length list) in
    let rows : List Row = c.loop-p.self-inside.rows.items in
    let earlier : List ℕ = c.loop-p.self-inside.earlier.items in (
      c.loop-p.invariant.0,
      subst (λ cells. Fills c.args.layout.now.chart c.args.region.now c.args.self.now (set rows (slice_index cells c.loop-p.p) c.row.result) (set earlier (slice_index cells c.loop-p.p) c.before-in-loop-p.result) (c.loop-p.p + 1)) (sym list)
          (fills-more c.args.layout.now.chart c.args.region.now c.args.self.now rows earlier c.loop-p.p c.before-in-loop-p.result c.row.result c.regions-regions.ensures.sound c.requires.region.there within c.loop-p.invariant.1 c.row.ensures c.before-in-loop-p.ensures),
    )
