use Rattle.std.proofs.Common.{◌≡◌, ◌<◌, arith, ap, sym, ◌∙◌, ◌∷◌, []}
use Rattle.border_rows.specs.Places.{step_place, widths_of, words_of}
use Rattle.region_slots.proofs.Looking.{looking}
use Rattle.region_slots.proofs.field.Field.look.Goals as goal

pub load-requires : goal.load-requires
load-requires c =
    let terms = c.self.inside.table.shared.key in
    let seat = c.pass.inside.seat in
    let same_terms : terms ≡ c.args.self.now.terms = ap (λ field. field.terms) c.self.view_is in
    let same_table : c.self.inside.table.shared.table_id ≡ c.args.self.now.table = ap (λ field. field.table) c.self.view_is in
    let of_field : seat.me.0.terms ≡ terms ∷ [] = ap (λ pass. pass.knows.terms) c.pass.view_is ∙ c.requires.belongs.terms ∙ ap (λ t. t ∷ []) (sym same_terms) in
    let chart : terms.setup.now.chart ≡ c.self.inside.layout.now.chart = c.self.invariant.1 in
    let places : c.self.inside.places ≡ widths_of terms.setup.now.chart = c.self.invariant.2 ∙ ap widths_of (sym chart) in
    let table = c.self.invariant.3 in
    let place : c.step-word.result ≡ step_place (widths_of terms.setup.now.chart) c.args.region = c.step-word.ensures.place ∙ ap (λ widths. step_place widths c.args.region) places in
    let there : c.step-word.result < c.self.inside.table.shared.table_id.words = omega (arith, c.step-word.ensures.there, ap words_of places, table.words) in (
      ap (λ pass. pass.table) c.pass.view_is ∙ c.requires.belongs.table ∙ sym same_table,
      there,
      rw place
          (looking terms c.self.inside.table.shared.table_id.slots seat.id c.args.region seat.me table.chart (rw same_terms c.requires.there) of_field c.pass.invariant.share),
    )
