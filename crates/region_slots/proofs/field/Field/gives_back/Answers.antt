use Rattle.std.specs.Prelude.{slice_index}
use Rattle.std.proofs.Common.{◌≡◌, ◌+◌, ◌-◌, ℕ, refl, sym, ap, subst, ◌∙◌, arith}
use Rattle.atomic_table.specs.Table.{rest}
use Rattle.border_rows.specs.Kinds.{fresh, freed, known_at, later_of}
use Rattle.border_rows.specs.declared.view.View.{View}
use Rattle.region_slots.specs.Gathering.{AreCarried, held_to}
use Rattle.region_slots.proofs.Gathering.{carried-top, held-top}
use Rattle.region_slots.proofs.field.Field.gives_back.Goals as goal

pub release_gathered-requires-clause-state : goal.release_gathered-requires-clause-state
release_gathered-requires-clause-state c =
    let r : ℕ = c.loop-left.left - 1 in
    let one : c.loop-left.left ≡ r + 1 = omega (arith, c.loop-left-test.true) in
    let seen = c.args.seat.now.me.0.seen in
    let inv = c.loop-left.invariant in
    let (state, others, is, stands, later) = carried-top c.args.self.now.terms seen c.loop-left.left r c.loop-left.seat.me.1 one inv.4 in
    (known_at (fresh r) (slice_index seen r), held_to seen r, state, others, ap (λ (v : View). v.holds) inv.3 ∙ held-top seen c.loop-left.left r one, refl, refl, is, stands)

pub release_gathered-requires-clause-gathered : goal.release_gathered-requires-clause-gathered
release_gathered-requires-clause-gathered c =
    let r : ℕ = c.loop-left.left - 1 in
    let one : c.loop-left.left ≡ r + 1 = omega (arith, c.loop-left-test.true) in
    let inv = c.loop-left.invariant in
    ap (λ (v : View). v.holds) inv.3 ∙ ap (held_to c.args.seat.now.me.0.seen) one ∙ sym (ap (λ (v : View). held_to v.seen (r + 1)) inv.3)

pub loop-left-preserved : goal.loop-left-preserved
loop-left-preserved c =
    let r : ℕ = c.loop-left.left - 1 in
    let one : c.loop-left.left ≡ r + 1 = omega (arith, c.loop-left-test.true) in
    let seen = c.args.seat.now.me.0.seen in
    let inv = c.loop-left.invariant in
    let (state, others, is, stands, later) = carried-top c.args.self.now.terms seen c.loop-left.left r c.loop-left.seat.me.1 one inv.4 in
    let given = c.release_gathered.ensures.given in (
      c.release_gathered.ensures.same.0 ∙ inv.0,
      c.release_gathered.ensures.same.1 ∙ inv.1,
      omega (arith, inv.2),
      ap (λ m. m.0) given ∙ ap freed inv.3 ∙ ap (λ holds. record c.args.seat.now.me.0 { holds = later_of holds }) (held-top seen c.loop-left.left r one),
      subst (AreCarried c.args.self.now.terms seen r) (sym (ap (λ m. m.1) given ∙ ap rest is)) later,
    )
