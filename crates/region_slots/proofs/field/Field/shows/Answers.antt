use Rattle.std.specs.Prelude.{slice_index}
use Rattle.std.proofs.Common.{◌≡◌, ◌+◌, ◌-◌, ℕ, suc, List, ◌∷◌, sym, ap, subst, ◌∙◌, arith}
use Rattle.atomic_table.specs.Table.{rest, turned}
use Rattle.region_step.specs.Region.{RegionValue}
use Rattle.border_rows.specs.declared.view.Terms.{Terms}
use Rattle.region_slots.specs.FieldView.{FieldValue, IsTableFor}
use Rattle.region_slots.proofs.Copying.{AreShown, IsOnTop, IsTurning, shown-more, turning-top}
use Rattle.region_slots.proofs.field.Field.shows.Goals as goal

-- the region in the slot is the last that isn't copied yet
on-top : (terms : Terms) (seen : List ℕ) (left r : ℕ) (old carried : List (ℕ × RegionValue)) → left ≡ r + 1 → IsTurning terms seen left old carried → IsOnTop terms seen r old carried
on-top terms seen left r old carried is turning =
    let next : left ≡ suc r = omega (arith, is) in turning-top terms seen r old carried (subst (λ n. IsTurning terms seen n old carried) next turning)

pub shows_last-requires-clause-slot : goal.shows_last-requires-clause-slot
shows_last-requires-clause-slot c =
    let r : ℕ = c.loop-left.left - 1 in
    let seen = c.args.seat.now.me.0.seen in
    let top = on-top c.args.self.now.terms seen c.loop-left.left r c.args.seat.now.me.1 c.loop-left.seat.me.1 (omega (arith, c.loop-left-test.true)) c.loop-left.invariant.4 in
    (slice_index seen r, top.state, top.top ∙ ap (λ others. (r, top.state) ∷ others) (sym (ap rest top.top)), top.stands)

pub loop-left-preserved : goal.loop-left-preserved
loop-left-preserved c =
    let terms : Terms = c.args.self.now.terms in
    let field : IsTableFor terms c.args.self.now.table = subst (λ (f : FieldValue). IsTableFor f.terms f.table) c.self.view_is c.self.invariant.3 in
    let r : ℕ = c.loop-left.left - 1 in
    let one : c.loop-left.left ≡ r + 1 = omega (arith, c.loop-left-test.true) in
    let seen = c.args.seat.now.me.0.seen in
    let inv = c.loop-left.invariant in
    let top = on-top terms seen c.loop-left.left r c.args.seat.now.me.1 c.loop-left.seat.me.1 one inv.4 in
    let shown = c.shows_last.ensures in
    let slot : c.loop-left.seat.me.1 ≡ (r, top.state) ∷ rest c.loop-left.seat.me.1 = top.top ∙ ap (λ others. (r, top.state) ∷ others) (sym (ap rest top.top)) in
    let me : c.turn.new.self.me ≡ (c.loop-left.seat.me.0, turned c.loop-left.seat.me.1) = c.turn.ensures.2 ∙ ap (λ m. (m.0, turned m.1)) shown.same.2 in (
      c.turn.ensures.1 ∙ shown.same.0 ∙ inv.0,
      c.turn.ensures.0 ∙ shown.same.1 ∙ inv.1,
      ap (λ m. m.0) me ∙ inv.2,
      omega (arith, inv.3),
      subst (IsTurning terms seen r c.args.seat.now.me.1) (sym (ap (λ m. m.1) me ∙ ap turned top.top)) top.turned,
      shown.room,
      shown-more terms seen r c.loop-left.room c.shows_last.new.room top.state field.chart (subst (λ n. AreShown terms seen n c.loop-left.room) one inv.6) top.stands (shown.shows top.state slot) shown.others,
    )
