use Rattle.std.proofs.Common.{◌≡◌, ◌<◌, ◌+◌, arith, ap, sym, subst, ◌∙◌, length}
use Rattle.border_rows.specs.Places.{step_place, widths_of, words_of}
use Rattle.border_rows.specs.declared.view.Terms.{Terms}
use Rattle.border_rows.proofs.ClaimKinds.{within-widths}
use Rattle.border_rows.proofs.RowKinds.{AllCleared}
use Rattle.region_slots.proofs.Writing.{publishing}
use Rattle.region_slots.proofs.field.Field.publish_step.Goals as goal

pub step-word-requires : goal.step-word-requires
step-word-requires c =
    let terms = c.self.inside.table.shared.key in
    let same_terms : terms ≡ c.args.self.now.terms = ap (λ field. field.terms) c.self.view_is in
    let chart : terms.setup.now.chart ≡ c.self.inside.layout.now.chart = c.self.invariant.1 in
    let places : c.self.inside.places ≡ widths_of terms.setup.now.chart = c.self.invariant.2 ∙ ap widths_of (sym chart) in
    omega (arith, within-widths terms.setup.now.chart c.args.region c.self.invariant.3.chart (rw same_terms c.requires.there), ap length places)

pub store-requires : goal.store-requires
store-requires c =
    let terms = c.self.inside.table.shared.key in
    let same_terms : terms ≡ c.args.self.now.terms = ap (λ field. field.terms) c.self.view_is in
    let same_table : c.self.inside.table.shared.table_id ≡ c.args.self.now.table = ap (λ field. field.table) c.self.view_is in
    let chart : terms.setup.now.chart ≡ c.self.inside.layout.now.chart = c.self.invariant.1 in
    let places : c.self.inside.places ≡ widths_of terms.setup.now.chart = c.self.invariant.2 ∙ ap widths_of (sym chart) in
    let table = c.self.invariant.3 in
    let hold = c.requires.working.0 in
    let region : hold.region ≡ c.args.region = c.requires.working.2 in
    let step : hold.step + 1 ≡ c.args.step = c.requires.working.3 in
    let place : c.step-word.result ≡ step_place (widths_of terms.setup.now.chart) hold.region =
    c.step-word.ensures.place ∙ ap (λ widths. step_place widths c.args.region) places ∙ ap (λ r. step_place (widths_of terms.setup.now.chart) r) (sym region) in
    let all : AllCleared terms hold = subst (λ (t : Terms). AllCleared t hold) (sym same_terms) c.requires.working.5 in
    let there : c.step-word.result < c.self.inside.table.shared.table_id.words = omega (arith, c.step-word.ensures.there, ap words_of places, table.words) in (
      c.requires.seat.table ∙ sym same_table,
      there,
      rw place (rw step at (publishing terms c.self.inside.table.shared.table_id.slots c.args.seat.now.id c.args.seat.now.me hold table.chart (rw same_terms c.requires.seat.terms) c.requires.seat.share c.requires.working.1 all (rw (same_terms, region) c.requires.there) (rw (same_terms, region) c.requires.working.4) (omega (arith, step, c.requires.in_time, ap (λ (t : Terms). t.setup.now.net.steps) same_terms)))),
    )
