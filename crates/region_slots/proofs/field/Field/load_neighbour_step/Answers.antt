use Rattle.std.proofs.Common.{inl, inr, ◌≡◌, ◌<◌, true, arith, ap, sym, ◌∙◌, length}
use Rattle.std.proofs.lemmas.Bool.{cases_lt}
use Rattle.region_cut.specs.Neighbours.{are_neighbours}
use Rattle.border_rows.specs.Places.{step_place, widths_of, words_of}
use Rattle.border_rows.specs.declared.view.Terms.{Terms}
use Rattle.border_rows.proofs.ClaimKinds.{within-widths}
use Rattle.border_rows.proofs.Keeping.{neighbours-there}
use Rattle.region_slots.proofs.Comparing.{comparing, working-beside}
use Rattle.region_slots.proofs.field.Field.load_neighbour_step.Goals as goal

pub step-word-requires : goal.step-word-requires
step-word-requires c =
    let terms = c.self.inside.table.shared.key in
    let same_terms : terms ≡ c.args.self.now.terms = ap (λ field. field.terms) c.self.view_is in
    let chart : terms.setup.now.chart ≡ c.self.inside.layout.now.chart = c.self.invariant.1 in
    let places : c.self.inside.places ≡ widths_of terms.setup.now.chart = c.self.invariant.2 ∙ ap widths_of (sym chart) in
    let hold = c.requires.working.0 in
    let near : are_neighbours terms.setup.now.net.connectors terms.setup.now.chart.cut hold.region c.args.neighbour ≡ true = rw same_terms c.requires.working.2 in
    let there = (neighbours-there terms.setup.now.net terms.setup.now.chart hold.region c.args.neighbour near).1 in
    omega (arith, within-widths terms.setup.now.chart c.args.neighbour c.self.invariant.3.chart there, ap length places)

pub load-requires : goal.load-requires
load-requires c =
    let terms = c.self.inside.table.shared.key in
    let same_terms : terms ≡ c.args.self.now.terms = ap (λ field. field.terms) c.self.view_is in
    let same_table : c.self.inside.table.shared.table_id ≡ c.args.self.now.table = ap (λ field. field.table) c.self.view_is in
    let chart : terms.setup.now.chart ≡ c.self.inside.layout.now.chart = c.self.invariant.1 in
    let places : c.self.inside.places ≡ widths_of terms.setup.now.chart = c.self.invariant.2 ∙ ap widths_of (sym chart) in
    let table = c.self.invariant.3 in
    let place : c.step-word.result ≡ step_place (widths_of terms.setup.now.chart) c.args.neighbour = c.step-word.ensures.place ∙ ap (λ widths. step_place widths c.args.neighbour) places in
    let there : c.step-word.result < c.self.inside.table.shared.table_id.words = omega (arith, c.step-word.ensures.there, ap words_of places, table.words) in (
      c.requires.seat.table ∙ sym same_table,
      there,
      rw place (comparing terms c.self.inside.table.shared.table_id.slots c.args.seat.now.id c.args.neighbour c.args.seat.now.me c.requires.working.0 table.chart (rw same_terms c.requires.seat.terms) c.requires.seat.share c.requires.working.1 (rw same_terms c.requires.working.2)),
    )

-- the word that was read is the neighbour's
read-word : (c : goal.After-load) → c.step-word.result ≡ step_place (widths_of c.args.self.now.terms.setup.now.chart) c.args.neighbour
read-word c =
    let terms = c.self.inside.table.shared.key in
    let same_terms : terms ≡ c.args.self.now.terms = ap (λ field. field.terms) c.self.view_is in
    let chart : terms.setup.now.chart ≡ c.self.inside.layout.now.chart = c.self.invariant.1 in
    let places : c.self.inside.places ≡ widths_of c.args.self.now.terms.setup.now.chart = c.self.invariant.2 ∙ ap widths_of (sym chart) ∙ ap (λ (t : Terms). widths_of t.setup.now.chart) same_terms in
    c.step-word.ensures.place ∙ ap (λ widths. step_place widths c.args.neighbour) places

pub returns-clause-near : goal.returns-clause-near
returns-clause-near c hold works past =
    let beside = working-beside c.args.self.now.terms c.args.neighbour c.args.seat.now.me.0 hold c.requires.working.0 c.requires.seat.terms works c.requires.working.1 c.requires.working.2 in
    (c.load.ensures.2.near c.args.self.now.terms c.args.neighbour hold beside (read-word c) past).0

pub returns-clause-short : goal.returns-clause-short
returns-clause-short c hold works below =
    let beside = working-beside c.args.self.now.terms c.args.neighbour c.args.seat.now.me.0 hold c.requires.working.0 c.requires.seat.terms works c.requires.working.1 c.requires.working.2 in
    let told = c.load.ensures.2.short c.args.self.now.terms c.args.neighbour hold beside (read-word c) below in
    (told.0, told.2)

pub returns-clause-later : goal.returns-clause-later
returns-clause-later c =
    let hold = c.requires.working.0 in
    let works = c.requires.working.1 in
    let beside = working-beside c.args.self.now.terms c.args.neighbour c.args.seat.now.me.0 hold hold c.requires.seat.terms works works c.requires.working.2 in
    elim (cases_lt c.load.result hold.step) [
      | inl below ↦ (c.load.ensures.2.short c.args.self.now.terms c.args.neighbour hold beside (read-word c) below).1
      | inr past ↦ (c.load.ensures.2.near c.args.self.now.terms c.args.neighbour hold beside (read-word c) past).1
    ]
