use Rattle.std.specs.Prelude.{slice_index}
use Rattle.std.proofs.Common.{◌≡◌, ◌<◌, ◌≤◌, ◌∷◌, arith, ap, sym, ◌∙◌}
use Rattle.region_step.specs.Region.{RegionValue}
use Rattle.region_step.specs.Standing.{Stands}
use Rattle.border_rows.specs.Kinds.{found_at}
use Rattle.border_rows.specs.declared.view.Terms.{Terms}
use Rattle.border_rows.specs.Places.{step_place, widths_of, words_of}
use Rattle.region_slots.proofs.Looking.{learning}
use Rattle.region_slots.proofs.field.Field.load_own_step.Goals as goal

pub load-requires : goal.load-requires
load-requires c =
    let terms = c.self.inside.table.shared.key in
    let same_terms : terms ≡ c.args.self.now.terms = ap (λ field. field.terms) c.self.view_is in
    let same_table : c.self.inside.table.shared.table_id ≡ c.args.self.now.table = ap (λ field. field.table) c.self.view_is in
    let chart : terms.setup.now.chart ≡ c.self.inside.layout.now.chart = c.self.invariant.1 in
    let places : c.self.inside.places ≡ widths_of terms.setup.now.chart = c.self.invariant.2 ∙ ap widths_of (sym chart) in
    let table = c.self.invariant.3 in
    let place : c.step-word.result ≡ step_place (widths_of terms.setup.now.chart) c.args.region = c.step-word.ensures.place ∙ ap (λ widths. step_place widths c.args.region) places in
    let there : c.step-word.result < c.self.inside.table.shared.table_id.words = omega (arith, c.step-word.ensures.there, ap words_of places, table.words) in (
      c.requires.seat.table ∙ sym same_table,
      there,
      rw place
          (learning terms c.self.inside.table.shared.table_id.slots c.args.seat.now.id c.args.region c.args.seat.now.me c.requires.fresh.0 table.chart (rw same_terms c.requires.there)
          (rw same_terms c.requires.seat.terms) c.requires.seat.share c.requires.fresh.1),
    )

-- what the look at the step word of the region just taken tells
known : (c : goal.After-load) →
    (state : RegionValue) × (c.load.new.seat.me ≡ (found_at c.args.seat.now.me.0 c.args.region c.load.result, (c.args.region, state) ∷ c.args.seat.now.me.1))
    × Stands c.args.self.now.terms.setup.now c.args.region c.load.result state
    × (slice_index c.args.seat.now.me.0.seen c.args.region ≤ c.load.result) × (slice_index c.args.self.now.terms.setup.now.start.steps c.args.region ≤ c.load.result)
    × (c.load.result ≤ c.args.self.now.terms.setup.now.net.steps)
known c =
    let same_terms : c.self.inside.table.shared.key ≡ c.args.self.now.terms = ap (λ field. field.terms) c.self.view_is in
    let chart : c.self.inside.layout.now.chart ≡ c.args.self.now.terms.setup.now.chart = sym c.self.invariant.1 ∙ ap (λ (terms : Terms). terms.setup.now.chart) same_terms in
    c.load.ensures.2.known c.args.self.now.terms c.args.region c.requires.fresh.0 (record { of_field = c.requires.seat.terms; there = c.requires.there })
    (c.step-word.ensures.place ∙ ap (λ widths. step_place widths c.args.region) (c.self.invariant.2 ∙ ap widths_of chart)) c.requires.fresh.1

pub returns-clause-state : goal.returns-clause-state
returns-clause-state c = let told = known c in (told.0, told.1, told.2)

pub returns-clause-later : goal.returns-clause-later
returns-clause-later c = (known c).3

pub returns-clause-started : goal.returns-clause-started
returns-clause-started c = (known c).4

pub returns-clause-in_time : goal.returns-clause-in_time
returns-clause-in_time c = (known c).5
