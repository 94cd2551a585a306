use Rattle.std.proofs.Common.{◌≡◌, sym, ap, subst, ◌∙◌}
use Rattle.region_step.specs.Region.{RegionValue}
use Rattle.region_step.specs.Standing.{Stands}
use Rattle.atomic_table.specs.Table.{rest}
use Rattle.snapshot.specs.Rooms.{StaysBeside}
use Rattle.border_rows.specs.declared.view.Terms.{Terms}
use Rattle.region_slots.proofs.Telling.{same-slot, stands-number}
use Rattle.region_slots.proofs.field.Field.shows_last.Goals as goal

pub returns-clause-others : goal.returns-clause-others
returns-clause-others c =
    let terms : Terms = c.args.self.now.terms in
    let chart : c.self.inside.layout.now.chart ≡ terms.setup.now.chart = sym c.self.invariant.1 ∙ ap (λ field. field.terms.setup.now.chart) c.self.view_is in
    let state : RegionValue = c.slot_mut-state.result.now in
    let (step, old, has, stands) = c.requires.slot in
    let is : old ≡ state = same-slot c.args.seat.now.me.1 (rest c.args.seat.now.me.1) (rest c.args.seat.now.me.1) c.args.region old state has c.slot_mut-state.ensures.value in
    let stood = subst (Stands terms.setup.now c.args.region step) is stands in
    subst (StaysBeside terms.setup.now.chart c.args.room.now c.fill.new.self) (stands-number terms c.args.region step state stood) (rw chart at c.fill.ensures.others)
