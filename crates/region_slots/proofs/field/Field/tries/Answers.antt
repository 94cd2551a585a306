use Rattle.std.proofs.Common.{rules, ◌≡◌, ℕ, ◌+◌, ◌∷◌, List, refl, sym, ap, subst, ◌∙◌, arith}
use Rattle.atomic_table.specs.Table.{rest}
use Rattle.border_rows.specs.Places.{width_at, widths_of}
use Rattle.region_slots.specs.FieldView.{HasSeenInTime}
use Rattle.region_slots.specs.Moments.{cut_run}
use Rattle.region_slots.specs.Plays.{Mine}
use Rattle.region_step.specs.Region.{RegionValue}
use Rattle.region_step.specs.Standing.{Stands}
use Rattle.region_slots.specs.Turning.{wrote_many}
use Rattle.border_rows.specs.Kinds.{found_at, freed, fresh, known_at, later_of, published, taken}
use Rattle.border_rows.specs.declared.view.Hold.{Hold}
use Rattle.border_rows.specs.declared.view.Terms.{Terms}
use Rattle.border_rows.specs.declared.view.View.{View}
use Rattle.region_slots.proofs.Comparing.{same-hold}
use Rattle.std.specs.Prelude.{slice_index}
use Rattle.std.proofs.Common.{◌≤◌}
use Rattle.region_slots.specs.Turning.{HasFallenShort, HasLooked, IsBehind, IsMoved}
use Rattle.region_slots.specs.declared.turn.Turn.TheVariants.{Behind, Moved}
use Rattle.region_slots.proofs.NeighbourLooks.{turned-behind, turned-moved}
use Rattle.region_slots.proofs.field.Field.tries.Goals as goal

-- the state of the region, at its step as the token says it
at-step : (terms : Terms) (r s t : ℕ) (old new : Mine) → t ≡ s → (state : RegionValue) × (new ≡ (found_at old.0 r s, (r, state) ∷ old.1)) × Stands terms.setup.now r s state →
    (state : RegionValue) × (new ≡ (found_at old.0 r t, (r, state) ∷ old.1)) × Stands terms.setup.now r t state
at-step terms r s t old new is known = subst (λ n. (state : RegionValue) × (new ≡ (found_at old.0 r n, (r, state) ∷ old.1)) × Stands terms.setup.now r n state) (sym is) known

past-step : (view : View) (r s t : ℕ) → t ≡ s → slice_index view.seen r ≤ s → slice_index view.seen r ≤ t
past-step view r s t is past = subst (λ n. slice_index view.seen r ≤ n) (sym is) past

pub pass_over-requires-clause-state : goal.pass_over-requires-clause-state
pass_over-requires-clause-state g c =
    let mine = c.try_claim.ensures.taken c.if-not-try_claim.false in
    let state = at-step c.args.self.now.terms c.args.region _ c.step-step.result c.try_claim.new.seat.me c.learn-taken.new.seat.me c.step-step.ensures.step c.learn-taken.ensures.state in
    let view : c.learn-taken.new.seat.me.0 ≡ found_at (taken c.args.seat.now.me.0 c.args.region) c.args.region c.step-step.result =
    ap (λ m. m.0) state.1 ∙ ap (λ m. found_at m.0 c.args.region c.step-step.result) mine in (
      known_at (fresh c.args.region) c.step-step.result,
      c.args.seat.now.me.0.holds,
      state.0,
      c.try_claim.new.seat.me.1,
      ap (λ (v : View). v.holds) view,
      refl,
      refl,
      ap (λ m. m.1) state.1,
      state.2,
    )

pub clears-requires-clause-at : goal.clears-requires-clause-at
clears-requires-clause-at g c =
    let mine = c.try_claim.ensures.taken c.if-not-try_claim.false in
    let state = at-step c.args.self.now.terms c.args.region _ c.step-step.result c.try_claim.new.seat.me c.learn-taken.new.seat.me c.step-step.ensures.step c.learn-taken.ensures.state in
    let view : c.learn-taken.new.seat.me.0 ≡ found_at (taken c.args.seat.now.me.0 c.args.region) c.args.region c.step-step.result =
    ap (λ m. m.0) state.1 ∙ ap (λ m. found_at m.0 c.args.region c.step-step.result) mine in
    record {
      hold = known_at (fresh c.args.region) c.step-step.result;
      works = record { later = c.args.seat.now.me.0.holds; holds = ap (λ (v : View). v.holds) view; known = refl; early = refl };
      region = refl;
      step = refl;
    }

pub release-requires-clause-seat : goal.release-requires-clause-seat
release-requires-clause-seat g c κs within =
    let mine = c.try_claim.ensures.taken c.if-not-try_claim.false in
    let state = at-step c.args.self.now.terms c.args.region _ c.step-step.result c.try_claim.new.seat.me c.learn-taken.new.seat.me c.step-step.ensures.step c.learn-taken.ensures.state in
    let view : c.learn-taken.new.seat.me.0 ≡ found_at (taken c.args.seat.now.me.0 c.args.region) c.args.region c.step-step.result =
    ap (λ m. m.0) state.1 ∙ ap (λ m. found_at m.0 c.args.region c.step-step.result) mine in
    let short = c.clears.ensures.short c.in-Some.neighbour c.in-Some.s c.in-Some.is in
    record {
      table = c.clears.ensures.same.1 ∙ c.learn-taken.ensures.same.1 ∙ c.try_claim.ensures.same.1 ∙ c.requires.seat.table;
      terms = short.0.still.alike.terms ∙ ap (λ (v : View). v.terms) view ∙ c.requires.seat.terms;
      share = λ none. c.requires.seat.share (sym (short.0.still.alike.share ∙ ap (λ (v : View). v.share) view) ∙ none);
    }

pub release-requires-clause-state : goal.release-requires-clause-state
release-requires-clause-state g c κs within =
    let mine = c.try_claim.ensures.taken c.if-not-try_claim.false in
    let state = at-step c.args.self.now.terms c.args.region _ c.step-step.result c.try_claim.new.seat.me c.learn-taken.new.seat.me c.step-step.ensures.step c.learn-taken.ensures.state in
    let view : c.learn-taken.new.seat.me.0 ≡ found_at (taken c.args.seat.now.me.0 c.args.region) c.args.region c.step-step.result =
    ap (λ m. m.0) state.1 ∙ ap (λ m. found_at m.0 c.args.region c.step-step.result) mine in
    let short = c.clears.ensures.short c.in-Some.neighbour c.in-Some.s c.in-Some.is in (
      short.2.hold,
      short.2.works.later,
      state.0,
      c.try_claim.new.seat.me.1,
      short.2.works.holds,
      short.2.region,
      short.2.works.known,
      short.2.step,
      short.2.works.early,
      c.clears.ensures.same.2 ∙ ap (λ m. m.1) state.1,
      state.2,
    )

pub rises-freed-requires-clause-seat : goal.rises-freed-requires-clause-seat
rises-freed-requires-clause-seat g c κs within =
    let mine = c.try_claim.ensures.taken c.if-not-try_claim.false in
    let state = at-step c.args.self.now.terms c.args.region _ c.step-step.result c.try_claim.new.seat.me c.learn-taken.new.seat.me c.step-step.ensures.step c.learn-taken.ensures.state in
    let view : c.learn-taken.new.seat.me.0 ≡ found_at (taken c.args.seat.now.me.0 c.args.region) c.args.region c.step-step.result =
    ap (λ m. m.0) state.1 ∙ ap (λ m. found_at m.0 c.args.region c.step-step.result) mine in
    let looked = (c.clears.ensures.cleared c.in_default.is).0 in
    let has = looked (known_at (fresh c.args.region) c.step-step.result) record { later = c.args.seat.now.me.0.holds; holds = ap (λ (v : View). v.holds) view; known = refl; early = refl } in
    record {
      table = c.clears.ensures.same.1 ∙ c.learn-taken.ensures.same.1 ∙ c.try_claim.ensures.same.1 ∙ c.requires.seat.table;
      terms = has.still.alike.terms ∙ ap (λ (v : View). v.terms) view ∙ c.requires.seat.terms;
      share = λ none. c.requires.seat.share (sym (has.still.alike.share ∙ ap (λ (v : View). v.share) view) ∙ none);
    }

pub rises-freed-requires-clause-at : goal.rises-freed-requires-clause-at
rises-freed-requires-clause-at g c κs within =
    let mine = c.try_claim.ensures.taken c.if-not-try_claim.false in
    let state = at-step c.args.self.now.terms c.args.region _ c.step-step.result c.try_claim.new.seat.me c.learn-taken.new.seat.me c.step-step.ensures.step c.learn-taken.ensures.state in
    let view : c.learn-taken.new.seat.me.0 ≡ found_at (taken c.args.seat.now.me.0 c.args.region) c.args.region c.step-step.result =
    ap (λ m. m.0) state.1 ∙ ap (λ m. found_at m.0 c.args.region c.step-step.result) mine in
    let looked = (c.clears.ensures.cleared c.in_default.is).0 in
    let has = looked (known_at (fresh c.args.region) c.step-step.result) record { later = c.args.seat.now.me.0.holds; holds = ap (λ (v : View). v.holds) view; known = refl; early = refl } in
    record { hold = has.now; works = has.works; region = has.region; step = has.step }

pub rises-freed-requires-clause-none : goal.rises-freed-requires-clause-none
rises-freed-requires-clause-none g c κs within =
    let mine = c.try_claim.ensures.taken c.if-not-try_claim.false in
    let state = at-step c.args.self.now.terms c.args.region _ c.step-step.result c.try_claim.new.seat.me c.learn-taken.new.seat.me c.step-step.ensures.step c.learn-taken.ensures.state in
    let view : c.learn-taken.new.seat.me.0 ≡ found_at (taken c.args.seat.now.me.0 c.args.region) c.args.region c.step-step.result =
    ap (λ m. m.0) state.1 ∙ ap (λ m. found_at m.0 c.args.region c.step-step.result) mine in
    let looked = (c.clears.ensures.cleared c.in_default.is).0 in
    let has = looked (known_at (fresh c.args.region) c.step-step.result) record { later = c.args.seat.now.me.0.holds; holds = ap (λ (v : View). v.holds) view; known = refl; early = refl } in
    record {
      many = λ hold works. ap (λ (h : Hold). h.written) (same-hold c.clears.new.seat.me.0.holds has.now hold has.works.later works.later has.works.holds works.holds) ∙ has.written;
    }

pub returns-in-Some-clause-idle : goal.returns-in-Some-clause-idle
returns-in-Some-clause-idle g c =
    let mine = c.try_claim.ensures.taken c.if-not-try_claim.false in
    let state = at-step c.args.self.now.terms c.args.region _ c.step-step.result c.try_claim.new.seat.me c.learn-taken.new.seat.me c.step-step.ensures.step c.learn-taken.ensures.state in
    let view : c.learn-taken.new.seat.me.0 ≡ found_at (taken c.args.seat.now.me.0 c.args.region) c.args.region c.step-step.result =
    ap (λ m. m.0) state.1 ∙ ap (λ m. found_at m.0 c.args.region c.step-step.result) mine in
    let short = c.clears.ensures.short c.in-Some.neighbour c.in-Some.s c.in-Some.is in
    let given = c.release.ensures.given in
    record {
      share = λ none. c.requires.seat.share (sym (short.0.still.alike.share ∙ ap (λ (v : View). v.share) view) ∙ sym (ap (λ m. m.0.share) given) ∙ none);
      holds = ap (λ m. m.0.holds) given ∙ short.0.later ∙ ap (λ (v : View). later_of v.holds) view ∙ c.requires.idle.holds;
      nothing = ap (λ m. m.1) given ∙ ap rest (c.clears.ensures.same.2 ∙ ap (λ m. m.1) state.1) ∙ ap (λ m. m.1) mine ∙ c.requires.idle.nothing;
    }

pub returns-clause-idle : goal.returns-clause-idle
returns-clause-idle g c =
    let mine = c.try_claim.ensures.taken c.if-not-try_claim.false in
    let state = at-step c.args.self.now.terms c.args.region _ c.step-step.result c.try_claim.new.seat.me c.learn-taken.new.seat.me c.step-step.ensures.step c.learn-taken.ensures.state in
    let view : c.learn-taken.new.seat.me.0 ≡ found_at (taken c.args.seat.now.me.0 c.args.region) c.args.region c.step-step.result =
    ap (λ m. m.0) state.1 ∙ ap (λ m. found_at m.0 c.args.region c.step-step.result) mine in
    let looked = (c.clears.ensures.cleared c.in_default.is).0 in
    let has = looked (known_at (fresh c.args.region) c.step-step.result) record { later = c.args.seat.now.me.0.holds; holds = ap (λ (v : View). v.holds) view; known = refl; early = refl } in
    let given = c.rises-freed.ensures.risen in
    let width : ℕ = width_at (widths_of c.args.self.now.terms.setup.now.chart) c.args.region in
    record {
      share = λ none. c.requires.seat.share (sym (has.still.alike.share ∙ ap (λ (v : View). v.share) view) ∙ sym (ap (λ m. m.0.share) given) ∙ none);
      holds = ap (λ m. m.0.holds) given ∙
          ap (λ (l : List Hold). (freed (published (wrote_many (record c.clears.new.seat.me.0 { holds = l }) width) c.args.region (c.step-step.result + 1))).holds) has.works.holds ∙
          sym (ap later_of has.works.holds) ∙ has.later ∙ ap (λ (v : View). later_of v.holds) view ∙ c.requires.idle.holds;
      nothing = ap (λ m. m.1) given ∙ ap rest (c.clears.ensures.same.2 ∙ ap (λ m. m.1) state.1) ∙ ap (λ m. m.1) mine ∙ c.requires.idle.nothing;
    }

behind-same : (n p q s : ℕ) → Behind n p ≡ Behind q s → (n ≡ q) × (p ≡ s)
behind-same n p q s same = (cc, cc)

pub returns-in-Some-clause-behind : goal.returns-in-Some-clause-behind
returns-in-Some-clause-behind g c = λ q s is.
    let mine = c.try_claim.ensures.taken c.if-not-try_claim.false in
    let state = at-step c.args.self.now.terms c.args.region _ c.step-step.result c.try_claim.new.seat.me c.learn-taken.new.seat.me c.step-step.ensures.step c.learn-taken.ensures.state in
    let view : c.learn-taken.new.seat.me.0 ≡ found_at (taken c.args.seat.now.me.0 c.args.region) c.args.region c.step-step.result =
    ap (λ m. m.0) state.1 ∙ ap (λ m. found_at m.0 c.args.region c.step-step.result) mine in
    let n : ℕ = c.in-Some.neighbour in
    let p : ℕ = c.in-Some.s in
    let r : ℕ = c.args.region in
    let old : View = c.args.seat.now.me.0 in
    let short = c.clears.ensures.short n p c.in-Some.is in
    let fallen : HasFallenShort (found_at (taken old r) r c.step-step.result) c.clears.new.seat.me.0 r n p = subst (λ (v : View). HasFallenShort v c.clears.new.seat.me.0 r n p) view short.0 in
    let past : slice_index old.seen r ≤ c.step-step.result = subst (λ m. slice_index m.0.seen r ≤ c.step-step.result) mine (past-step c.try_claim.new.seat.me.0 c.args.region _ c.step-step.result c.step-step.ensures.step c.learn-taken.ensures.later) in
    let terms : Terms = c.args.self.now.terms in
    let behind = turned-behind terms old c.clears.new.seat.me.0 r n p c.step-step.result c.args.goal fallen short.1 c.if-goal-step.false past (omega (arith, c.try_claim.ensures.long, c.requires.there)) short.3 in
    let same = behind-same n p q s is in
    subst (λ t. IsBehind terms old c.release.new.seat.me.0 c.args.goal r q t) same.1
    (subst (λ t. IsBehind terms old c.release.new.seat.me.0 c.args.goal r t p) same.0
    (subst (λ (v : View). IsBehind terms old v c.args.goal r n p) (sym (ap (λ m. m.0) c.release.ensures.given)) behind))

pub returns-in-Some-clause-terms : goal.returns-in-Some-clause-terms
returns-in-Some-clause-terms g c =
    let mine = c.try_claim.ensures.taken c.if-not-try_claim.false in
    let state = at-step c.args.self.now.terms c.args.region _ c.step-step.result c.try_claim.new.seat.me c.learn-taken.new.seat.me c.step-step.ensures.step c.learn-taken.ensures.state in
    let view : c.learn-taken.new.seat.me.0 ≡ found_at (taken c.args.seat.now.me.0 c.args.region) c.args.region c.step-step.result =
    ap (λ m. m.0) state.1 ∙ ap (λ m. found_at m.0 c.args.region c.step-step.result) mine in
    let short = c.clears.ensures.short c.in-Some.neighbour c.in-Some.s c.in-Some.is in
    ap (λ m. m.0.terms) c.release.ensures.given ∙ short.0.still.alike.terms ∙ ap (λ (v : View). v.terms) view

pub returns-clause-terms : goal.returns-clause-terms
returns-clause-terms g c =
    let mine = c.try_claim.ensures.taken c.if-not-try_claim.false in
    let state = at-step c.args.self.now.terms c.args.region _ c.step-step.result c.try_claim.new.seat.me c.learn-taken.new.seat.me c.step-step.ensures.step c.learn-taken.ensures.state in
    let view : c.learn-taken.new.seat.me.0 ≡ found_at (taken c.args.seat.now.me.0 c.args.region) c.args.region c.step-step.result =
    ap (λ m. m.0) state.1 ∙ ap (λ m. found_at m.0 c.args.region c.step-step.result) mine in
    let looked = (c.clears.ensures.cleared c.in_default.is).0 in
    let has = looked (known_at (fresh c.args.region) c.step-step.result) record { later = c.args.seat.now.me.0.holds; holds = ap (λ (v : View). v.holds) view; known = refl; early = refl } in
    ap (λ m. m.0.terms) c.rises-freed.ensures.risen ∙ has.still.alike.terms ∙ ap (λ (v : View). v.terms) view

moved-same : (p s : ℕ) → Moved p ≡ Moved s → p ≡ s
moved-same p s same = cc

pub returns-clause-moved : goal.returns-clause-moved
returns-clause-moved g c = λ s is.
    let mine = c.try_claim.ensures.taken c.if-not-try_claim.false in
    let state = at-step c.args.self.now.terms c.args.region _ c.step-step.result c.try_claim.new.seat.me c.learn-taken.new.seat.me c.step-step.ensures.step c.learn-taken.ensures.state in
    let view : c.learn-taken.new.seat.me.0 ≡ found_at (taken c.args.seat.now.me.0 c.args.region) c.args.region c.step-step.result =
    ap (λ m. m.0) state.1 ∙ ap (λ m. found_at m.0 c.args.region c.step-step.result) mine in
    let looked = (c.clears.ensures.cleared c.in_default.is).0 in
    let has = looked (known_at (fresh c.args.region) c.step-step.result) record { later = c.args.seat.now.me.0.holds; holds = ap (λ (v : View). v.holds) view; known = refl; early = refl } in
    let terms : Terms = c.args.self.now.terms in
    let r : ℕ = c.args.region in
    let step : ℕ = c.step-step.result in
    let old : View = c.args.seat.now.me.0 in
    let now : View = c.clears.new.seat.me.0 in
    let hold : Hold = known_at (fresh r) step in
    let width : ℕ = width_at (widths_of terms.setup.now.chart) r in
    let past : slice_index old.seen r ≤ step = subst (λ m. slice_index m.0.seen r ≤ step) mine (past-step c.try_claim.new.seat.me.0 c.args.region _ c.step-step.result c.step-step.ensures.step c.learn-taken.ensures.later) in
    let moved = turned-moved terms old now hold r step c.args.goal width (subst (λ (v : View). HasLooked v now hold) view has) past c.if-goal-step.false c.rises-freed.ensures.later c.try_claim.ensures.long
    c.requires.there (c.clears.ensures.cleared c.in_default.is).2 in
    subst (λ t. IsMoved terms old c.rises-freed.new.seat.me.0 c.args.goal r t) (moved-same (step + 1) s is)
    (subst (λ (v : View). IsMoved terms old v c.args.goal r (step + 1)) (sym (ap (λ m. m.0) c.rises-freed.ensures.risen)) moved)

pub returns-in-Some-clause-seen_in_time : goal.returns-in-Some-clause-seen_in_time
returns-in-Some-clause-seen_in_time g c = subst (HasSeenInTime c.args.self.now.terms) (sym (ap (λ m. m.0) c.release.ensures.given)) c.release.ensures.in_time

-- the observer was told of the region at its own step
pub returns-in-Some-clause-told_behind : goal.returns-in-Some-clause-told_behind
returns-in-Some-clause-told_behind g c = λ q s is.
    let short = c.clears.ensures.short c.in-Some.neighbour c.in-Some.s c.in-Some.is in
    let same = behind-same c.in-Some.neighbour c.in-Some.s q s is in
    let told : g.W.Observer.told_held c.args.observer.now (cut_run c.args.self.now.terms.setup.now) c.args.region c.step-step.result = search rules in
    subst (g.W.Observer.told_held c.args.observer.now (cut_run c.args.self.now.terms.setup.now) c.args.region) (sym short.1 ∙ ap (λ t. t + 1) same.1) told
