use Rattle.std.proofs.Common.{length, ap, arith, refl, subst, sym, ◌∙◌}
use Rattle.std.proofs.lemmas.List.{length-map}
use Rattle.network_file.specs.Sound.{IsNetwork}
use Rattle.region_cut.specs.Chart.{IsChart}
use Rattle.region_cut.specs.Cuttings.{region_count}
use Rattle.region_step.specs.Start.{StartLists}
use Rattle.border_rows.specs.declared.view.Terms.{Terms}
use Rattle.border_rows.specs.declared.view.View.{View}
use Rattle.region_slots.specs.FieldView.{IsPassOf, IsTableFor}
use Rattle.region_slots.specs.FirstWords.{AreAllFirstWords}
use Rattle.region_slots.specs.Opening.{first_view}
use Rattle.region_slots.proofs.Openings.{border-within, laid-stands}
use Rattle.region_slots.proofs.field.Field.open.Goals as goal

pub first_words-requires-clause-rows : goal.first_words-requires-clause-rows
first_words-requires-clause-rows c = λ q there.
    border-within c.layout-layout.result.now.net c.layout-layout.result.now.chart c.start-start.result.now.rows q
    (subst IsNetwork (c.net.view_is ∙ c.net-net.ensures.network) c.net.invariant) c.net-net.ensures.charted
    (ap (λ start. length start.rows) c.start-start.ensures.start ∙ c.start-start.ensures.fits.rows ∙ ap (λ net. length net.cells) (sym c.layout-layout.ensures.network)) there

pub first_words-requires-clause-steps : goal.first_words-requires-clause-steps
first_words-requires-clause-steps c =
    ap (λ start. length start.steps) c.start-start.ensures.start ∙ c.start-start.ensures.fits.one_each ∙ ap (λ chart. region_count chart.cut) (sym c.layout-layout.ensures.chart)

pub first_words-requires-clause-earlier : goal.first_words-requires-clause-earlier
first_words-requires-clause-earlier c =
    ap (λ start. length start.earlier) c.start-start.ensures.start ∙ c.start-start.ensures.fits.earlier ∙
    sym (ap (λ start. length start.rows) c.start-start.ensures.start ∙ c.start-start.ensures.fits.rows)

pub new-requires-2 : goal.new-requires-2
new-requires-2 c =
    let words = rw (c.layout-layout.ensures.chart, c.start-start.ensures.start) at c.in_ok-words.ensures in
    laid-stands record { setup = c.args.setup; seats = c.args.seats } c.deref.result.now c.in_ok-regions.regions.items
    (subst IsChart c.layout-layout.ensures.chart c.regions-count.ensures.sound) c.start-start.ensures.lawful
    (subst (AreAllFirstWords c.args.setup.now.chart c.args.setup.now.start) (sym c.deref.ensures.value) words) c.in_ok-regions.ensures c.requires.some

pub invariant_of-result : goal.invariant_of-result
invariant_of-result c =
    let terms : Terms = record { setup = c.args.setup; seats = c.args.seats } in
    let ok = c.in-Ok.ensures.ok in
    let words : AreAllFirstWords c.args.setup.now.chart c.args.setup.now.start c.in_ok-words.words.items =
    rw (c.layout-layout.ensures.chart, c.start-start.ensures.start) at c.in_ok-words.ensures in
    let made : IsTableFor terms c.in-Ok.table.shared.table_id = record {
      sound = subst IsNetwork (c.net.view_is ∙ c.net-net.ensures.network ∙ c.layout-layout.ensures.network) c.net.invariant;
      charted = rw (c.layout-layout.ensures.network, c.layout-layout.ensures.chart) at c.net-net.ensures.charted;
      chart = subst IsChart c.layout-layout.ensures.chart c.regions-count.ensures.sound;
      words = ok.0 ∙ ap length c.deref.ensures.value ∙ words.long;
      fits = c.start-start.ensures.fits;
      lawful = c.start-start.ensures.lawful;
    } in (
      ap (λ (t : Terms). t.setup.now.net) ok.5 ∙ sym c.layout-layout.ensures.network,
      ap (λ (t : Terms). t.setup.now.chart) ok.5 ∙ sym c.layout-layout.ensures.chart,
      c.in_ok-places.ensures,
      subst (λ (t : Terms). IsTableFor t c.in-Ok.table.shared.table_id) (sym ok.5) made,
      c.in_ok-steps.ensures.items,
      omega (arith, c.in_ok-steps.ensures.capacity, c.regions-count.ensures.count),
      c.in_ok-closed.ensures.items,
      omega (arith, c.in_ok-closed.ensures.capacity, c.regions-count.ensures.count),
    )

pub returns-in-Ok-clause-belongs : goal.returns-in-Ok-clause-belongs
returns-in-Ok-clause-belongs c =
    let terms : Terms = record { setup = c.args.setup; seats = c.args.seats } in
    let ok = c.in-Ok.ensures.ok in
    let start : StartLists = c.args.setup.now.start in
    let fits = c.start-start.ensures.fits in
    let made : IsPassOf record { terms = terms; table = c.in-Ok.table.shared.table_id } record { knows = first_view terms; id = c.in-Ok.seat.id; table = c.in-Ok.seat.table_id } = record {
      table = ok.2;
      terms = refl;
      counts = record {
        seen = fits.one_each;
        held_found = length-map start.steps (λ s. 0) ∙ fits.one_each;
        looks = length-map start.steps (λ s. 0) ∙ fits.one_each;
        takes = length-map start.steps (λ s. 0) ∙ fits.one_each;
      };
      in_time = λ r there. fits.in_time r 0 (omega (arith, there, fits.one_each));
    } in
    subst (λ (t : Terms). IsPassOf record { terms = t; table = c.in-Ok.table.shared.table_id } record { knows = c.in-Ok.seat.me.0; id = c.in-Ok.seat.id; table = c.in-Ok.seat.table_id }) (sym ok.5)
    (subst (λ (view : View). IsPassOf record { terms = terms; table = c.in-Ok.table.shared.table_id } record { knows = view; id = c.in-Ok.seat.id; table = c.in-Ok.seat.table_id }) (sym (ap (λ me. me.0) ok.4)) made)
