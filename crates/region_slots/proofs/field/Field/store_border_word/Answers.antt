use Rattle.std.proofs.Common.{◌≡◌, ◌<◌, ◌+◌, ◌%◌, arith, ap, sym, subst, ◌∙◌}
use Rattle.border_rows.specs.Places.{row_place, widths_of, words_of}
use Rattle.border_rows.specs.declared.view.Terms.{Terms}
use Rattle.border_rows.proofs.RowKinds.{AllCleared}
use Rattle.region_slots.proofs.Writing.{writing}
use Rattle.region_slots.proofs.field.Field.store_border_word.Goals as goal

pub store-requires : goal.store-requires
store-requires c =
    let terms = c.self.inside.table.shared.key in
    let same_terms : terms ≡ c.args.self.now.terms = ap (λ field. field.terms) c.self.view_is in
    let same_table : c.self.inside.table.shared.table_id ≡ c.args.self.now.table = ap (λ field. field.table) c.self.view_is in
    let chart : terms.setup.now.chart ≡ c.self.inside.layout.now.chart = c.self.invariant.1 in
    let places : c.self.inside.places ≡ widths_of terms.setup.now.chart = c.self.invariant.2 ∙ ap widths_of (sym chart) in
    let table = c.self.invariant.3 in
    let hold = c.requires.working.0 in
    let region : hold.region ≡ c.args.region = c.requires.working.2 in
    let step : hold.step + 1 ≡ c.args.step = c.requires.working.3 in
    let next : hold.written ≡ c.args.j = c.requires.working.4 in
    let place : c.row-word.result ≡ row_place (widths_of terms.setup.now.chart) hold.region ((hold.step + 1) % 2) hold.written =
    c.row-word.ensures.place ∙ ap (λ widths. row_place widths c.args.region (c.args.step % 2) c.args.j) places ∙
    ap (λ r. row_place (widths_of terms.setup.now.chart) r (c.args.step % 2) c.args.j) (sym region) ∙
    ap (λ t. row_place (widths_of terms.setup.now.chart) hold.region (t % 2) c.args.j) (sym step) ∙
    ap (λ j. row_place (widths_of terms.setup.now.chart) hold.region ((hold.step + 1) % 2) j) (sym next) in
    let all : AllCleared terms hold = subst (λ (t : Terms). AllCleared t hold) (sym same_terms) c.requires.working.5 in
    let there : c.row-word.result < c.self.inside.table.shared.table_id.words = omega (arith, c.row-word.ensures.there, ap words_of places, table.words) in (
      c.requires.seat.table ∙ sym same_table,
      there,
      rw place (writing terms c.self.inside.table.shared.table_id.slots c.args.seat.now.id c.args.n c.args.seat.now.me hold table.chart (rw same_terms c.requires.seat.terms) c.requires.seat.share c.requires.working.1 all (rw (same_terms, next, region) c.requires.inside) (rw (same_terms, region, next, step) c.requires.held)),
    )
