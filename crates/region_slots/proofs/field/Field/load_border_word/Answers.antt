use Rattle.std.proofs.Common.{◌≡◌, ◌<◌, ◌%◌, arith, ap, sym, ◌∙◌}
use Rattle.border_rows.specs.Places.{row_place, widths_of, words_of}
use Rattle.region_slots.proofs.Reading.{reading}
use Rattle.region_slots.proofs.field.Field.load_border_word.Goals as goal

pub load-requires : goal.load-requires
load-requires c =
    let terms = c.self.inside.table.shared.key in
    let same_terms : terms ≡ c.args.self.now.terms = ap (λ field. field.terms) c.self.view_is in
    let same_table : c.self.inside.table.shared.table_id ≡ c.args.self.now.table = ap (λ field. field.table) c.self.view_is in
    let chart : terms.setup.now.chart ≡ c.self.inside.layout.now.chart = c.self.invariant.1 in
    let places : c.self.inside.places ≡ widths_of terms.setup.now.chart = c.self.invariant.2 ∙ ap widths_of (sym chart) in
    let table = c.self.invariant.3 in
    let hold = c.requires.working.0 in
    let step : hold.step ≡ c.args.step = c.requires.working.2 in
    let place : c.row-word.result ≡ row_place (widths_of terms.setup.now.chart) c.args.neighbour (hold.step % 2) c.args.j =
    c.row-word.ensures.place ∙ ap (λ widths. row_place widths c.args.neighbour (c.args.step % 2) c.args.j) places ∙ ap (λ t. row_place (widths_of terms.setup.now.chart) c.args.neighbour (t % 2) c.args.j) (sym step) in
    let there : c.row-word.result < c.self.inside.table.shared.table_id.words = omega (arith, c.row-word.ensures.there, ap words_of places, table.words) in (
      c.requires.seat.table ∙ sym same_table,
      there,
      rw place (reading terms c.self.inside.table.shared.table_id.slots c.args.seat.now.id c.args.neighbour c.args.j c.args.seat.now.me hold table.chart (rw same_terms c.requires.seat.terms) c.requires.seat.share c.requires.working.1 (rw same_terms c.requires.working.4) c.requires.working.3 (rw same_terms c.requires.inside)),
    )
