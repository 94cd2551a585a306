use Rattle.std.specs.Prelude.{slice_index}
use Rattle.std.proofs.Common.{◌≡◌, ◌≤◌, ℕ, ◌+◌, true, refl, sym, ap, subst, ◌∙◌}
use Rattle.atomic_table.specs.Table.{rest}
use Rattle.border_rows.specs.Kinds.{published, with_first}
use Rattle.border_rows.specs.Places.{width_at, widths_of}
use Rattle.border_rows.specs.declared.view.Hold.{Hold}
use Rattle.border_rows.specs.declared.view.View.{View}
use Rattle.region_slots.specs.FieldView.{HasSeenInTime, IsWorkingAt}
use Rattle.region_slots.specs.Turning.{wrote_many}
use Rattle.region_slots.proofs.RowFilling.{written_to, wrote_many-works}
use Rattle.region_slots.proofs.field.Field.rises.Goals as goal

pub publish_step-requires-clause-working : goal.publish_step-requires-clause-working
publish_step-requires-clause-working g c =
    let width : ℕ = width_at (widths_of c.args.self.now.terms.setup.now.chart) c.args.region in
    let at = c.requires.at in
    let view : c.fills.new.seat.me.0 ≡ wrote_many c.args.seat.now.me.0 width =
    ap (λ m. m.0) c.fills.ensures.written ∙ ap (λ (v : View). wrote_many v width) (ap (λ m. m.0) c.advances.ensures.advanced.1 ∙ ap (λ m. m.0) c.tells.ensures.told.1) in (
      written_to width at.hold,
      subst (λ (v : View). IsWorkingAt v (written_to width at.hold)) (sym view) (wrote_many-works c.args.seat.now.me.0 at.hold width at.works),
      at.region,
      ap (λ n. n + 1) at.step,
      refl,
      (λ q near. c.requires.cleared.all at.hold q at.works near),
    )

pub release_risen-requires-clause-state : goal.release_risen-requires-clause-state
release_risen-requires-clause-state g c κs within =
    let width : ℕ = width_at (widths_of c.args.self.now.terms.setup.now.chart) c.args.region in
    let at = c.requires.at in
    let view : c.fills.new.seat.me.0 ≡ wrote_many c.args.seat.now.me.0 width =
    ap (λ m. m.0) c.fills.ensures.written ∙ ap (λ (v : View). wrote_many v width) (ap (λ m. m.0) c.advances.ensures.advanced.1 ∙ ap (λ m. m.0) c.tells.ensures.told.1) in
    let advanced = c.advances.ensures.advanced in
    let r : ℕ = c.args.region in
    let done : Hold → Hold = λ hold. record hold { published = true } in (
      done (written_to width at.hold),
      at.works.later,
      advanced.0,
      rest c.tells.new.seat.me.1,
      ap (λ m. m.0.holds) c.publish_step.ensures.risen ∙ ap (λ (v : View). (published v r (c.args.step + 1)).holds) view ∙ ap (λ holds. with_first done (with_first (written_to width) holds)) at.works.holds,
      at.region,
      at.works.known,
      at.step,
      refl,
      ap (λ m. m.1) c.publish_step.ensures.risen ∙ ap (λ m. m.1) c.fills.ensures.written ∙ ap (λ m. m.1) advanced.1,
      advanced.2,
    )

pub returns-clause-later : goal.returns-clause-later
returns-clause-later g c =
    let width : ℕ = width_at (widths_of c.args.self.now.terms.setup.now.chart) c.args.region in
    let view : c.fills.new.seat.me.0 ≡ wrote_many c.args.seat.now.me.0 width =
    ap (λ m. m.0) c.fills.ensures.written ∙ ap (λ (v : View). wrote_many v width) (ap (λ m. m.0) c.advances.ensures.advanced.1 ∙ ap (λ m. m.0) c.tells.ensures.told.1) in
    subst (λ (v : View). slice_index v.seen c.args.region ≤ c.args.step + 1) view c.publish_step.ensures.later

pub returns-clause-in_time : goal.returns-clause-in_time
returns-clause-in_time g c = subst (HasSeenInTime c.args.self.now.terms) (sym (ap (λ m. m.0) c.release_risen.ensures.given)) c.release_risen.ensures.in_time
