use Rattle.std.proofs.Common.{◌≡◌, sym, ap, subst, ◌∙◌}
use Rattle.region_step.specs.Region.{RegionValue}
use Rattle.region_step.specs.Standing.{Stands}
use Rattle.atomic_table.specs.Table.{rest}
use Rattle.border_rows.specs.declared.view.Terms.{Terms}
use Rattle.region_slots.specs.FieldView.{FieldValue, IsTableFor}
use Rattle.region_slots.proofs.Telling.{border-now, same-slot, stands-number}
use Rattle.region_slots.proofs.field.Field.holds_now.Goals as goal

pub border_now-requires-clause-there : goal.border_now-requires-clause-there
border_now-requires-clause-there c =
    let terms : Terms = c.args.self.now.terms in
    let net : c.self.inside.layout.now.net ≡ terms.setup.now.net = sym c.self.invariant.0 ∙ ap (λ field. field.terms.setup.now.net) c.self.view_is in
    let chart : c.self.inside.layout.now.chart ≡ terms.setup.now.chart = sym c.self.invariant.1 ∙ ap (λ field. field.terms.setup.now.chart) c.self.view_is in
    let field : IsTableFor terms c.args.self.now.table = subst (λ (f : FieldValue). IsTableFor f.terms f.table) c.self.view_is c.self.invariant.3 in
    let state : RegionValue = c.slot_mut-state.result.now in
    let is : c.requires.slot.0 ≡ state = same-slot c.args.seat.now.me.1 (rest c.args.seat.now.me.1) (rest c.args.seat.now.me.1) c.args.region c.requires.slot.0 state c.requires.slot.1 c.slot_mut-state.ensures.value in
    let stands = subst (Stands terms.setup.now c.args.region c.args.step) is c.requires.slot.2 in
    rw (chart, stands-number terms c.args.region c.args.step state stands) c.requires.inside

pub returns-clause-held : goal.returns-clause-held
returns-clause-held c =
    let terms : Terms = c.args.self.now.terms in
    let net : c.self.inside.layout.now.net ≡ terms.setup.now.net = sym c.self.invariant.0 ∙ ap (λ field. field.terms.setup.now.net) c.self.view_is in
    let chart : c.self.inside.layout.now.chart ≡ terms.setup.now.chart = sym c.self.invariant.1 ∙ ap (λ field. field.terms.setup.now.chart) c.self.view_is in
    let field : IsTableFor terms c.args.self.now.table = subst (λ (f : FieldValue). IsTableFor f.terms f.table) c.self.view_is c.self.invariant.3 in
    let state : RegionValue = c.slot_mut-state.result.now in
    let is : c.requires.slot.0 ≡ state = same-slot c.args.seat.now.me.1 (rest c.args.seat.now.me.1) (rest c.args.seat.now.me.1) c.args.region c.requires.slot.0 state c.requires.slot.1 c.slot_mut-state.ensures.value in
    let stands = subst (Stands terms.setup.now c.args.region c.args.step) is c.requires.slot.2 in
    border-now terms c.args.self.now.table c.args.region c.args.step c.args.j c.border_now.result state field c.requires.there c.requires.started c.requires.inside stands (rw chart at c.border_now.ensures)
