use Rattle.std.proofs.Common.{◌≡◌, ◌<◌, arith, ap, sym, ◌∙◌}
use Rattle.border_rows.specs.Places.{claim_place, widths_of, words_of}
use Rattle.region_slots.proofs.Claiming.{claiming}
use Rattle.region_slots.proofs.field.Field.try_claim.Goals as goal

pub compare_exchange-found-requires : goal.compare_exchange-found-requires
compare_exchange-found-requires c =
    let terms = c.self.inside.table.shared.key in
    let same_terms : terms ≡ c.args.self.now.terms = ap (λ field. field.terms) c.self.view_is in
    let same_table : c.self.inside.table.shared.table_id ≡ c.args.self.now.table = ap (λ field. field.table) c.self.view_is in
    let chart : terms.setup.now.chart ≡ c.self.inside.layout.now.chart = c.self.invariant.1 in
    let places : c.self.inside.places ≡ widths_of terms.setup.now.chart = c.self.invariant.2 ∙ ap widths_of (sym chart) in
    let table = c.self.invariant.3 in
    let place : c.claim-word.result ≡ claim_place (widths_of terms.setup.now.chart) c.args.region = c.claim-word.ensures.place ∙ ap (λ widths. claim_place widths c.args.region) places in
    let there : c.claim-word.result < c.self.inside.table.shared.table_id.words = omega (arith, c.claim-word.ensures.there, ap words_of places, table.words) in (
      c.requires.seat.table ∙ sym same_table,
      there,
      rw place (claiming terms c.self.inside.table.shared.table_id.slots c.args.seat.now.id c.args.region c.args.seat.now.me table.chart (rw same_terms c.requires.there) (rw same_terms c.requires.seat.terms) c.requires.seat.share c.requires.others),
    )

pub returns-clause-long : goal.returns-clause-long
returns-clause-long c = c.compare_exchange-found.ensures.2.long c.args.self.now.terms c.args.region record { of_field = c.requires.seat.terms; there = c.requires.there }

pub returns-clause-in_time : goal.returns-clause-in_time
returns-clause-in_time c = λ r there. c.compare_exchange-found.ensures.2.in_time c.args.self.now.terms r record { of_field = c.requires.seat.terms; there = there }
