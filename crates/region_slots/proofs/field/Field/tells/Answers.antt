use Rattle.std.specs.Prelude.{slice_index}
use Rattle.std.specs.List.{Contains}
use Rattle.std.proofs.Common.{◌≡◌, ◌<◌, ◌∷◌, length, true, refl, sym, ap, subst, ◌∙◌, arith, get_or}
use Rattle.std.proofs.lemmas.List.{length-map}
use Rattle.std.proofs.lemmas.List.Elements.{Contains-get_or}
use Rattle.region_cut.specs.Chart.{ChartLists, list_at}
use Rattle.region_step.specs.Opened.{halo_cells}
use Rattle.atomic_table.specs.Table.{rest}
use Rattle.border_rows.specs.declared.view.Terms.{Terms}
use Rattle.border_rows.specs.declared.view.View.{View}
use Rattle.region_slots.specs.FieldView.{FieldValue, IsTableFor}
use Rattle.region_slots.specs.Turning.{IsTold, field_held}
use Rattle.std.specs.Prelude.{map}
use Rattle.std.proofs.lemmas.List.{get_or-map}
use Rattle.region_cut.specs.declared.halo.Halo.{Halo}
use Rattle.region_cut.specs.Neighbours.{are_neighbours}
use Rattle.region_step.proofs.Ground.{ground}
use Rattle.region_slots.specs.FieldView.{IsWorkingAt}
use Rattle.region_slots.proofs.Telling.{halo-beside, same-slot, told-more, told-none}
use Rattle.region_slots.proofs.field.Field.tells.Goals as goal

blank : Halo
blank = record { cell = 0; region = 0; place = 0 }

pub loop-j-init : goal.loop-j-init
loop-j-init c = (
  refl,
  refl,
  (c.requires.slot.0, ap (λ l. (c.args.seat.now.me.0, l)) c.requires.slot.1, told-none c.args.self.now.terms c.args.region c.args.step c.requires.slot.0 c.requires.slot.2),
)

pub load_border_word-n-requires-clause-inside : goal.load_border_word-n-requires-clause-inside
unfolding blank
load_border_word-n-requires-clause-inside c =
    let terms : Terms = c.args.self.now.terms in
    let net : c.self.inside.layout.now.net ≡ terms.setup.now.net = sym c.self.invariant.0 ∙ ap (λ field. field.terms.setup.now.net) c.self.view_is in
    let chart : c.self.inside.layout.now.chart ≡ terms.setup.now.chart = sym c.self.invariant.1 ∙ ap (λ field. field.terms.setup.now.chart) c.self.view_is in
    let field : IsTableFor terms c.args.self.now.table = subst (λ (f : FieldValue). IsTableFor f.terms f.table) c.self.view_is c.self.invariant.3 in
    let list : c.halo-halo.result.now ≡ list_at terms.setup.now.chart.halo c.args.region = c.halo-halo.ensures.list ∙ ap (λ (lists : ChartLists). list_at lists.halo c.args.region) chart in
    let other : Halo = get_or c.halo-halo.result.now c.loop-j.j blank in
    let listed : Contains (list_at terms.setup.now.chart.halo c.args.region) other = subst (λ l. Contains l other) list (Contains-get_or c.halo-halo.result.now c.loop-j.j blank c.loop-j-test.true) in
    let beside = halo-beside terms c.args.self.now.table c.args.region other field c.requires.there listed in
    beside.1

pub load_border_word-n-requires-clause-working : goal.load_border_word-n-requires-clause-working
unfolding blank
load_border_word-n-requires-clause-working c =
    let terms : Terms = c.args.self.now.terms in
    let net : c.self.inside.layout.now.net ≡ terms.setup.now.net = sym c.self.invariant.0 ∙ ap (λ field. field.terms.setup.now.net) c.self.view_is in
    let chart : c.self.inside.layout.now.chart ≡ terms.setup.now.chart = sym c.self.invariant.1 ∙ ap (λ field. field.terms.setup.now.chart) c.self.view_is in
    let field : IsTableFor terms c.args.self.now.table = subst (λ (f : FieldValue). IsTableFor f.terms f.table) c.self.view_is c.self.invariant.3 in
    let list : c.halo-halo.result.now ≡ list_at terms.setup.now.chart.halo c.args.region = c.halo-halo.ensures.list ∙ ap (λ (lists : ChartLists). list_at lists.halo c.args.region) chart in
    let other : Halo = get_or c.halo-halo.result.now c.loop-j.j blank in
    let listed : Contains (list_at terms.setup.now.chart.halo c.args.region) other = subst (λ l. Contains l other) list (Contains-get_or c.halo-halo.result.now c.loop-j.j blank c.loop-j-test.true) in
    let beside = halo-beside terms c.args.self.now.table c.args.region other field c.requires.there listed in
    let at = c.requires.at in
    let view : c.loop-j.seat.me.0 ≡ c.args.seat.now.me.0 = ap (λ m. m.0) c.loop-j.invariant.2.1 in
    let near : are_neighbours terms.setup.now.net.connectors terms.setup.now.chart.cut at.hold.region other.region ≡ true =
    subst (λ r. are_neighbours terms.setup.now.net.connectors terms.setup.now.chart.cut r other.region ≡ true) (sym at.region) beside.0 in
    (at.hold, subst (λ (v : View). IsWorkingAt v at.hold) (sym view) at.works, at.step, c.requires.cleared.all at.hold other.region at.works near, near)

pub overflow_cast-j-end : goal.overflow_cast-j-end
overflow_cast-j-end c =
    let terms : Terms = c.args.self.now.terms in
    let net : c.self.inside.layout.now.net ≡ terms.setup.now.net = sym c.self.invariant.0 ∙ ap (λ field. field.terms.setup.now.net) c.self.view_is in
    let chart : c.self.inside.layout.now.chart ≡ terms.setup.now.chart = sym c.self.invariant.1 ∙ ap (λ field. field.terms.setup.now.chart) c.self.view_is in
    let field : IsTableFor terms c.args.self.now.table = subst (λ (f : FieldValue). IsTableFor f.terms f.table) c.self.view_is c.self.invariant.3 in
    let list : c.halo-halo.result.now ≡ list_at terms.setup.now.chart.halo c.args.region = c.halo-halo.ensures.list ∙ ap (λ (lists : ChartLists). list_at lists.halo c.args.region) chart in
    let lists = ground terms.setup.now.net terms.setup.now.chart.cut terms.setup.now.chart c.args.region field.sound field.charted c.requires.there in
    omega (arith, ap length list, length-map (list_at terms.setup.now.chart.halo c.args.region) (λ halo. halo.cell), lists.few_halo)

pub loop-j-preserved : goal.loop-j-preserved
unfolding blank
loop-j-preserved c =
    let terms : Terms = c.args.self.now.terms in
    let net : c.self.inside.layout.now.net ≡ terms.setup.now.net = sym c.self.invariant.0 ∙ ap (λ field. field.terms.setup.now.net) c.self.view_is in
    let chart : c.self.inside.layout.now.chart ≡ terms.setup.now.chart = sym c.self.invariant.1 ∙ ap (λ field. field.terms.setup.now.chart) c.self.view_is in
    let field : IsTableFor terms c.args.self.now.table = subst (λ (f : FieldValue). IsTableFor f.terms f.table) c.self.view_is c.self.invariant.3 in
    let list : c.halo-halo.result.now ≡ list_at terms.setup.now.chart.halo c.args.region = c.halo-halo.ensures.list ∙ ap (λ (lists : ChartLists). list_at lists.halo c.args.region) chart in
    let other : Halo = get_or c.halo-halo.result.now c.loop-j.j blank in
    let listed : Contains (list_at terms.setup.now.chart.halo c.args.region) other = subst (λ l. Contains l other) list (Contains-get_or c.halo-halo.result.now c.loop-j.j blank c.loop-j-test.true) in
    let beside = halo-beside terms c.args.self.now.table c.args.region other field c.requires.there listed in
    let within : c.loop-j.j < length (halo_cells terms.setup.now.chart c.args.region) = omega (arith, c.loop-j-test.true, ap length list, length-map (list_at terms.setup.now.chart.halo c.args.region) (λ halo. halo.cell)) in
    let cell : other.cell ≡ slice_index (halo_cells terms.setup.now.chart c.args.region) c.loop-j.j =
    sym (get_or-map (λ halo. halo.cell) c.halo-halo.result.now c.loop-j.j blank 0 c.loop-j-test.true) ∙ ap (λ l. slice_index (map (λ halo. halo.cell) l) c.loop-j.j) list in
    let before : c.load_border_word-n.new.seat.me ≡ (c.args.seat.now.me.0, (c.args.region, c.loop-j.invariant.2.0) ∷ rest c.args.seat.now.me.1) = c.load_border_word-n.ensures.same.2 ∙ c.loop-j.invariant.2.1 in
    let put = c.puts.ensures.put in
    let is : c.loop-j.invariant.2.0 ≡ put.0 = same-slot c.load_border_word-n.new.seat.me.1 (rest c.args.seat.now.me.1) (rest c.load_border_word-n.new.seat.me.1) c.args.region c.loop-j.invariant.2.0 put.0 (ap (λ m. m.1) before) put.2 in
    let told : IsTold terms c.args.region c.args.step c.loop-j.j put.0 = subst (IsTold terms c.args.region c.args.step c.loop-j.j) is c.loop-j.invariant.2.2 in
    let held : c.load_border_word-n.result ≡ field_held terms c.args.step (slice_index (halo_cells terms.setup.now.chart c.args.region) c.loop-j.j) =
    c.load_border_word-n.ensures.held ∙ ap (field_held terms c.args.step) (beside.2 ∙ cell) in (
      c.puts.ensures.same.0 ∙ c.load_border_word-n.ensures.same.0 ∙ c.loop-j.invariant.0,
      c.puts.ensures.same.1 ∙ c.load_border_word-n.ensures.same.1 ∙ c.loop-j.invariant.1,
      (
        put.1,
        put.3 ∙ ap (λ m. (m.0, (c.args.region, put.1) ∷ rest m.1)) before,
        told-more terms c.args.region c.args.step c.loop-j.j c.load_border_word-n.result put.0 put.1 told within held put.4 (put.5 told.opened),
      ),
    )
