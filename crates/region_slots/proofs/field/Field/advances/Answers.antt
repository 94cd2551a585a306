use Rattle.std.proofs.Common.{◌≡◌, ◌≤◌, length, refl, sym, ap, subst, ◌∙◌, arith}
use Rattle.std.proofs.lemmas.List.{length-map}
use Rattle.region_cut.specs.Chart.{list_at}
use Rattle.region_step.specs.Opened.{halo_cells}
use Rattle.region_step.specs.Region.{RegionValue}
use Rattle.atomic_table.specs.Table.{rest}
use Rattle.border_rows.specs.declared.view.Terms.{Terms}
use Rattle.region_slots.specs.FieldView.{FieldValue, IsTableFor}
use Rattle.region_slots.specs.Turning.{IsTold}
use Rattle.region_slots.proofs.Telling.{advanced-stands, can_advance, same-slot, told-step}
use Rattle.region_slots.proofs.field.Field.advances.Goals as goal

pub advance-requires-clause-in_time : goal.advance-requires-clause-in_time
advance-requires-clause-in_time c =
    let terms : Terms = c.args.self.now.terms in
    let net : c.self.inside.layout.now.net ≡ terms.setup.now.net = sym c.self.invariant.0 ∙ ap (λ field. field.terms.setup.now.net) c.self.view_is in
    let chart : c.self.inside.layout.now.chart ≡ terms.setup.now.chart = sym c.self.invariant.1 ∙ ap (λ field. field.terms.setup.now.chart) c.self.view_is in
    let field : IsTableFor terms c.args.self.now.table = subst (λ (f : FieldValue). IsTableFor f.terms f.table) c.self.view_is c.self.invariant.3 in
    let state : RegionValue = c.slot_mut-state.result.now in
    let is : c.requires.slot.0 ≡ state = same-slot c.args.seat.now.me.1 (rest c.args.seat.now.me.1) (rest c.args.seat.now.me.1) c.args.region c.requires.slot.0 state c.requires.slot.1 c.slot_mut-state.ensures.value in
    let told : IsTold terms c.args.region c.args.step (length (list_at terms.setup.now.chart.halo c.args.region)) state = subst (IsTold terms c.args.region c.args.step (length (list_at terms.setup.now.chart.halo c.args.region))) is c.requires.slot.2 in
    let all : length (halo_cells terms.setup.now.chart c.args.region) ≤ length (list_at terms.setup.now.chart.halo c.args.region) = omega (arith, length-map (list_at terms.setup.now.chart.halo c.args.region) (λ halo. halo.cell)) in
    omega (arith, told-step terms c.args.region c.args.step (length (list_at terms.setup.now.chart.halo c.args.region)) state told, c.requires.in_time, ap (λ n. n.steps) net)

pub advance-requires-clause-in_bounds : goal.advance-requires-clause-in_bounds
advance-requires-clause-in_bounds c =
    let terms : Terms = c.args.self.now.terms in
    let net : c.self.inside.layout.now.net ≡ terms.setup.now.net = sym c.self.invariant.0 ∙ ap (λ field. field.terms.setup.now.net) c.self.view_is in
    let chart : c.self.inside.layout.now.chart ≡ terms.setup.now.chart = sym c.self.invariant.1 ∙ ap (λ field. field.terms.setup.now.chart) c.self.view_is in
    let field : IsTableFor terms c.args.self.now.table = subst (λ (f : FieldValue). IsTableFor f.terms f.table) c.self.view_is c.self.invariant.3 in
    let state : RegionValue = c.slot_mut-state.result.now in
    let is : c.requires.slot.0 ≡ state = same-slot c.args.seat.now.me.1 (rest c.args.seat.now.me.1) (rest c.args.seat.now.me.1) c.args.region c.requires.slot.0 state c.requires.slot.1 c.slot_mut-state.ensures.value in
    let told : IsTold terms c.args.region c.args.step (length (list_at terms.setup.now.chart.halo c.args.region)) state = subst (IsTold terms c.args.region c.args.step (length (list_at terms.setup.now.chart.halo c.args.region))) is c.requires.slot.2 in
    let all : length (halo_cells terms.setup.now.chart c.args.region) ≤ length (list_at terms.setup.now.chart.halo c.args.region) = omega (arith, length-map (list_at terms.setup.now.chart.halo c.args.region) (λ halo. halo.cell)) in
    let can = can_advance terms c.args.self.now.table c.args.region c.args.step (length (list_at terms.setup.now.chart.halo c.args.region)) state field c.requires.there c.requires.in_time c.requires.started told all in
    rw (net, chart) can.0

pub advance-requires-clause-halo : goal.advance-requires-clause-halo
advance-requires-clause-halo c =
    let terms : Terms = c.args.self.now.terms in
    let net : c.self.inside.layout.now.net ≡ terms.setup.now.net = sym c.self.invariant.0 ∙ ap (λ field. field.terms.setup.now.net) c.self.view_is in
    let chart : c.self.inside.layout.now.chart ≡ terms.setup.now.chart = sym c.self.invariant.1 ∙ ap (λ field. field.terms.setup.now.chart) c.self.view_is in
    let field : IsTableFor terms c.args.self.now.table = subst (λ (f : FieldValue). IsTableFor f.terms f.table) c.self.view_is c.self.invariant.3 in
    let state : RegionValue = c.slot_mut-state.result.now in
    let is : c.requires.slot.0 ≡ state = same-slot c.args.seat.now.me.1 (rest c.args.seat.now.me.1) (rest c.args.seat.now.me.1) c.args.region c.requires.slot.0 state c.requires.slot.1 c.slot_mut-state.ensures.value in
    let told : IsTold terms c.args.region c.args.step (length (list_at terms.setup.now.chart.halo c.args.region)) state = subst (IsTold terms c.args.region c.args.step (length (list_at terms.setup.now.chart.halo c.args.region))) is c.requires.slot.2 in
    let all : length (halo_cells terms.setup.now.chart c.args.region) ≤ length (list_at terms.setup.now.chart.halo c.args.region) = omega (arith, length-map (list_at terms.setup.now.chart.halo c.args.region) (λ halo. halo.cell)) in
    let can = can_advance terms c.args.self.now.table c.args.region c.args.step (length (list_at terms.setup.now.chart.halo c.args.region)) state field c.requires.there c.requires.in_time c.requires.started told all in
    rw (net, chart) can.1

pub returns-clause-advanced : goal.returns-clause-advanced
returns-clause-advanced c =
    let terms : Terms = c.args.self.now.terms in
    let net : c.self.inside.layout.now.net ≡ terms.setup.now.net = sym c.self.invariant.0 ∙ ap (λ field. field.terms.setup.now.net) c.self.view_is in
    let chart : c.self.inside.layout.now.chart ≡ terms.setup.now.chart = sym c.self.invariant.1 ∙ ap (λ field. field.terms.setup.now.chart) c.self.view_is in
    let field : IsTableFor terms c.args.self.now.table = subst (λ (f : FieldValue). IsTableFor f.terms f.table) c.self.view_is c.self.invariant.3 in
    let state : RegionValue = c.slot_mut-state.result.now in
    let is : c.requires.slot.0 ≡ state = same-slot c.args.seat.now.me.1 (rest c.args.seat.now.me.1) (rest c.args.seat.now.me.1) c.args.region c.requires.slot.0 state c.requires.slot.1 c.slot_mut-state.ensures.value in
    let told : IsTold terms c.args.region c.args.step (length (list_at terms.setup.now.chart.halo c.args.region)) state = subst (IsTold terms c.args.region c.args.step (length (list_at terms.setup.now.chart.halo c.args.region))) is c.requires.slot.2 in
    let all : length (halo_cells terms.setup.now.chart c.args.region) ≤ length (list_at terms.setup.now.chart.halo c.args.region) = omega (arith, length-map (list_at terms.setup.now.chart.halo c.args.region) (λ halo. halo.cell)) in (
      c.advance.new.self,
      refl,
      advanced-stands terms c.self.inside.layout.now.net c.self.inside.layout.now.chart c.args.region c.args.step (length (list_at terms.setup.now.chart.halo c.args.region)) state c.advance.new.self net chart told all c.advance.ensures.opened
          (c.advance.ensures.grid terms.setup.now.start terms.setup.now.every c.args.region c.args.step c.requires.started),
    )
