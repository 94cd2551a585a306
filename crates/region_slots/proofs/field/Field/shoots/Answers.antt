use Rattle.std.specs.Prelude.{slice_index}
use Rattle.std.proofs.Common.{◌≡◌, ℕ, [], Option, None, Some, refl, sym, ap, subst, ◌∙◌, arith}
use Rattle.region_cut.specs.Cuttings.{region_count}
use Rattle.border_rows.specs.Kinds.{gathered}
use Rattle.border_rows.specs.declared.view.Terms.{Terms}
use Rattle.border_rows.specs.declared.view.View.{View}
use Rattle.region_slots.specs.FieldView.{FieldValue, HasCounts, IsIdle, IsTableFor}
use Rattle.region_slots.specs.Gathering.{HasGathered}
use Rattle.region_slots.specs.Plays.{Mine}
use Rattle.region_slots.specs.Shooting.{HasShot, IsBusy, IsUnmoved, IsWhole}
use Rattle.region_slots.specs.declared.shot.Shot.TheVariants.{Busy}
use Rattle.region_slots.proofs.Copying.{AreShown, IsShown}
use Rattle.region_slots.proofs.Gathering.{counts-freed, seat-kept, unmoved-freed, unmoved-shot}
use Rattle.region_slots.proofs.Shown.{has-shot, shown-steps, whole-shown}
use Rattle.region_slots.proofs.field.Field.shoots.Goals as goal

pub gives_back-requires-clause-seat : goal.gives_back-requires-clause-seat
gives_back-requires-clause-seat c =
    let stopped = c.gathers.ensures.stopped c.in-Some.region c.in-Some.is in
    seat-kept c.args.self.now c.args.seat.now c.gathers.new.seat c.requires.seat c.gathers.ensures.same.1 stopped.unmoved.terms stopped.unmoved.share

-- what a seat is that gave all regions back
freed-idle : (old : View) (before after : Mine) → (old.share ≡ 0 → ⊥) → before.0.share ≡ old.share → after ≡ (record before.0 { holds = [] }, []) → IsIdle after.0 after.1
freed-idle old before after some share given = record {
  share = λ none. some (sym share ∙ sym (ap (λ m. m.0.share) given) ∙ none);
  holds = ap (λ m. m.0.holds) given;
  nothing = ap (λ m. m.1) given;
}

pub returns-in-Some-clause-idle : goal.returns-in-Some-clause-idle
returns-in-Some-clause-idle c =
    let stopped = c.gathers.ensures.stopped c.in-Some.region c.in-Some.is in
    freed-idle c.args.seat.now.me.0 c.gathers.new.seat.me c.gives_back.new.seat.me c.requires.seat.share stopped.unmoved.share c.gives_back.ensures.given

pub returns-in-Some-clause-counts : goal.returns-in-Some-clause-counts
returns-in-Some-clause-counts c =
    let stopped = c.gathers.ensures.stopped c.in-Some.region c.in-Some.is in
    let count : ℕ = region_count c.args.self.now.terms.setup.now.chart.cut in
    subst (HasCounts count) (sym (ap (λ m. m.0) c.gives_back.ensures.given)) (counts-freed count c.gathers.new.seat.me.0 stopped.counts)

pub returns-in-Some-clause-in_time : goal.returns-in-Some-clause-in_time
returns-in-Some-clause-in_time c = λ r there.
    let stopped = c.gathers.ensures.stopped c.in-Some.region c.in-Some.is in
    omega (arith, stopped.in_time r there, ap (λ m. slice_index m.0.seen r) c.gives_back.ensures.given)

busy-same : (r q : ℕ) → Busy r ≡ Busy q → r ≡ q
busy-same r q same = cc

none-some : (found : Option ℕ) (r : ℕ) → found ≡ None → found ≡ Some r → ⊥
none-some found r none some = cc

pub returns-in-Some-clause-shot : goal.returns-in-Some-clause-shot
returns-in-Some-clause-shot c =
    let terms : Terms = c.args.self.now.terms in
    let old : View = c.args.seat.now.me.0 in
    let r : ℕ = c.in-Some.region in
    let stopped = c.gathers.ensures.stopped r c.in-Some.is in
    let view : c.gives_back.new.seat.me.0 ≡ record c.gathers.new.seat.me.0 { holds = [] } = ap (λ m. m.0) c.gives_back.ensures.given in
    let busy : IsBusy terms old (record c.gathers.new.seat.me.0 { holds = [] }) r c.args.tries = record {
      there = c.gathers.ensures.there r c.in-Some.is;
      held_found = stopped.held_found;
      moments = stopped.moments;
    } in
    record {
      room = c.requires.room;
      unmoved = subst (IsUnmoved old) (sym view) (unmoved-freed old c.gathers.new.seat.me.0 stopped.unmoved);
      tried = λ q. omega (arith, c.gathers.ensures.tried q, ap (λ (v : View). slice_index v.held_found q) view);
      taken = λ is. absurd cc;
      busy = λ q is. subst (λ p. IsBusy terms old c.gives_back.new.seat.me.0 p c.args.tries) (busy-same r q is) (subst (λ v. IsBusy terms old v r c.args.tries) (sym view) busy);
      unchanged = λ q is. refl;
      never_busy = λ all. absurd (none-some c.gathers.result r (c.gathers.ensures.never_whole all) c.in-Some.is);
      whole = λ all. absurd (none-some c.gathers.result r (c.gathers.ensures.never_whole all) c.in-Some.is);
    }

pub returns-clause-shot : goal.returns-clause-shot
returns-clause-shot c =
    let terms : Terms = c.args.self.now.terms in
    let field : IsTableFor terms c.args.self.now.table = subst (λ (f : FieldValue). IsTableFor f.terms f.table) c.self.view_is c.self.invariant.3 in
    let old : View = c.args.seat.now.me.0 in
    let me : Mine = c.gathers.new.seat.me in
    let has : HasGathered terms old (region_count terms.setup.now.chart.cut) me = c.gathers.ensures.all c.in_default.is in
    let together = c.sees_together.ensures in
    let same : c.shows.new.seat.me ≡ (gathered me.0, me.1) = c.shows.ensures.same.2 ∙ together.moment in
    let view : c.gives_back-2.new.seat.me.0 ≡ record (gathered me.0) { holds = [] } = ap (λ m. m.0) c.gives_back-2.ensures.given ∙ ap (λ (m : Mine). record m.0 { holds = [] }) same in
    let seen : c.sees_together.new.seat.me.0.seen ≡ me.0.seen = ap (λ (m : Mine). m.0.seen) together.moment in
    let shown : AreShown terms me.0.seen 0 c.shows.new.room = λ r low there. subst (λ l. IsShown terms l c.shows.new.room r) seen (c.shows.ensures.shown r there) in
    let shot : HasShot terms old (record (gathered me.0) { holds = [] }) c.shows.new.room = has-shot terms c.args.self.now.table old me c.shows.new.room field has together.lawful together.started c.shows.ensures.room shown in
    record {
      room = c.shows.ensures.room;
      unmoved = subst (IsUnmoved old) (sym view) (unmoved-shot old me.0 has.unmoved);
      tried = λ q. omega (arith, c.gathers.ensures.tried q, ap (λ (v : View). slice_index v.held_found q) view);
      taken = λ is. subst (λ v. HasShot terms old v c.shows.new.room) (sym view) shot;
      busy = λ q is. absurd cc;
      unchanged = λ q is. absurd cc;
      never_busy = λ all. refl;
      whole = λ all.
          let own = together.whole (has.unmoved.share ∙ all) in
          subst (λ v. IsWhole terms v c.shows.new.room.steps) (sym view)
          (whole-shown terms me.0 me.0.seen c.shows.new.room.steps (shown-steps terms me.0.seen c.shows.new.room together.lawful.one_each c.shows.ensures.room shown) own);
    }

pub returns-in-Some-clause-terms : goal.returns-in-Some-clause-terms
returns-in-Some-clause-terms c = ap (λ m. m.0.terms) c.gives_back.ensures.given ∙ (c.gathers.ensures.stopped c.in-Some.region c.in-Some.is).unmoved.terms
