use Rattle.std.proofs.Common.{◌≡◌, ◌+◌, length, refl, sym, ap, subst, ◌∙◌, arith}
use Rattle.region_cut.specs.Chart.{ChartLists, list_at}
use Rattle.border_rows.specs.declared.view.Terms.{Terms}
use Rattle.border_rows.specs.declared.view.View.{View}
use Rattle.region_slots.specs.FieldView.{FieldValue, IsTableFor}
use Rattle.border_rows.specs.Places.{widths_of}
use Rattle.border_rows.proofs.ChartWidths.{width_at-widths_of, words-fit}
use Rattle.border_rows.proofs.ClaimKinds.{within-widths}
use Rattle.border_rows.proofs.PlaceLaws.{base-le-words}
use Rattle.region_slots.specs.FieldView.{IsWorkingAt}
use Rattle.region_slots.specs.Turning.{wrote_many}
use Rattle.region_slots.proofs.RowFilling.{written_to, wrote_many-none, wrote_many-works}
use Rattle.region_slots.proofs.field.Field.fills.Goals as goal

pub loop-j-init : goal.loop-j-init
loop-j-init c =
    let at = c.requires.at.1 in
    (refl, refl, ap (λ view. (view, c.args.seat.now.me.1)) (wrote_many-none c.args.seat.now.me.0 at.hold at.works (c.requires.none.many at.hold at.works)))

pub overflow_cast-j-end : goal.overflow_cast-j-end
overflow_cast-j-end c =
    let terms : Terms = c.args.self.now.terms in
    let net : c.self.inside.layout.now.net ≡ terms.setup.now.net = sym c.self.invariant.0 ∙ ap (λ field. field.terms.setup.now.net) c.self.view_is in
    let chart : c.self.inside.layout.now.chart ≡ terms.setup.now.chart = sym c.self.invariant.1 ∙ ap (λ field. field.terms.setup.now.chart) c.self.view_is in
    let field : IsTableFor terms c.args.self.now.table = subst (λ (f : FieldValue). IsTableFor f.terms f.table) c.self.view_is c.self.invariant.3 in
    let list = c.border-border.ensures.list ∙ ap (λ (lists : ChartLists). list_at lists.border c.args.region) chart in
    let few = words-fit terms.setup.now.net terms.setup.now.chart field.chart field.sound field.charted in
    omega (arith, ap length list, width_at-widths_of terms.setup.now.chart c.args.region, few, base-le-words (widths_of terms.setup.now.chart) c.args.region (within-widths terms.setup.now.chart c.args.region field.chart c.requires.there))

pub store_border_word-requires-clause-working : goal.store_border_word-requires-clause-working
store_border_word-requires-clause-working c =
    let at = c.requires.at.1 in
    let view : c.holds_now-n.new.seat.me.0 ≡ wrote_many c.args.seat.now.me.0 c.loop-j.j = ap (λ m. m.0) (c.holds_now-n.ensures.same.2 ∙ c.loop-j.invariant.2) in (
      written_to c.loop-j.j at.hold,
      subst (λ (v : View). IsWorkingAt v (written_to c.loop-j.j at.hold)) (sym view) (wrote_many-works c.args.seat.now.me.0 at.hold c.loop-j.j at.works),
      at.region,
      ap (λ n. n + 1) at.step ∙ c.requires.at.2,
      refl,
      (λ q near. c.requires.cleared.all at.hold q at.works near),
    )
