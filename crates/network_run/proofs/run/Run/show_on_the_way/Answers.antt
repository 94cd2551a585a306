use Rattle.std.specs.Prelude.{slice_index}
use Rattle.std.proofs.Common.{◌≡◌, ◌≢◌, ◌<◌, ◌≤◌, ℕ, List, refl, sym, ap, subst, ◌∙◌, arith}
use Rattle.region_cut.specs.Cuttings.{region_count}
use Rattle.region_step.specs.Setup.{SetupValue}
use Rattle.region_slots.specs.Shooting.{HasShot}
use Rattle.region_slots.specs.declared.shot.Shot.{Shot}
use Rattle.region_slots.specs.declared.shot.Shot.TheVariants.{Busy, Taken}
use Rattle.region_slots.specs.Moments.{AreTold, cut_run}
use Rattle.network_run.specs.Run.{RunValue, AreFrom}
use Rattle.network_run.proofs.Told.{told-taken}
use Rattle.network_run.proofs.run.Run.show_on_the_way.Goals as goal

pub returns-in_default-clause-reach : goal.returns-in_default-clause-reach
returns-in_default-clause-reach g c =
    let shot = c.drive_watched-shot.ensures.watched.shot in
    let low : c.drive_watched-shot.new.watcher.knows.reach ≤ c.args.goal = omega (arith, shot.unmoved.reach, c.enlist.ensures.knows.1, ap (λ (run : RunValue). run.knows.reach) c.self.view_is, c.requires.reach) in
    omega (arith, c.finish.ensures.keeps.reach, c.dismiss.ensures.reach c.args.goal low c.drive_watched-shot.ensures.enlisted)

-- a shot that isn't Busy is Taken
not-busy : (shot : Shot) → ((r : ℕ) → shot ≡ Busy r → ⊥) → shot ≡ Taken
not-busy Taken other = refl
not-busy (Busy r) other = absurd (other r refl)

pub returns-in_default-clause-between : goal.returns-in_default-clause-between
returns-in_default-clause-between g c = λ r there.
    let here : r < region_count c.self.inside.field.terms.setup.now.chart.cut = omega (arith, there, ap (λ (run : RunValue). region_count run.terms.setup.now.chart.cut) c.self.view_is) in
    let begun = ap (λ (run : RunValue). slice_index run.terms.setup.now.start.steps r) c.self.view_is in
    let shot = c.drive_watched-shot.ensures.watched.shot in
    let low : c.drive_watched-shot.new.watcher.knows.reach ≤ c.args.goal = omega (arith, shot.unmoved.reach, c.enlist.ensures.knows.1, ap (λ (run : RunValue). run.knows.reach) c.self.view_is, c.requires.reach) in
    let reach = c.dismiss.ensures.reach c.args.goal low c.drive_watched-shot.ensures.enlisted in
    let seats : c.dismiss.new.pass.knows.share ≡ c.self.inside.field.terms.seats = omega (arith, c.dismiss.ensures.seats, c.drive_watched-shot.ensures.many, c.enlist.ensures.many, shot.unmoved.share, c.enlist.ensures.seat, c.self.invariant.2, c.self.invariant.1) in
    let apart : c.dismiss.new.pass.knows.share ≢ c.drive_watched-shot.new.watcher.knows.share = λ same. absurd (omega (arith, same, seats, shot.unmoved.share, c.enlist.ensures.seat, c.self.invariant.2, c.self.invariant.1, c.self.invariant.3)) in
    let reached = c.dismiss.ensures.reached apart seats r here in
    let taken : HasShot c.self.inside.field.terms c.enlist.new.pass.knows c.drive_watched-shot.new.watcher.knows c.drive_watched-shot.new.room = shot.taken (not-busy c.drive_watched-shot.result c.in_default.not-Busy) in (
      omega (arith, taken.later r here, ap (λ l. slice_index l r) c.enlist.ensures.knows.0, ap (λ (run : RunValue). slice_index run.knows.seen r) c.self.view_is),
      omega (arith, ap (λ l. slice_index l r) taken.seen, c.dismiss.ensures.later r, reached, reach, begun),
    )

pub returns-in-Busy-clause-between : goal.returns-in-Busy-clause-between
returns-in-Busy-clause-between g c = λ r there.
    let here : r < region_count c.self.inside.field.terms.setup.now.chart.cut = omega (arith, there, ap (λ (run : RunValue). region_count run.terms.setup.now.chart.cut) c.self.view_is) in
    let begun = ap (λ (run : RunValue). slice_index run.terms.setup.now.start.steps r) c.self.view_is in
    let shot = c.drive_watched-shot.ensures.watched.shot in
    let low : c.drive_watched-shot.new.watcher.knows.reach ≤ c.args.goal = omega (arith, shot.unmoved.reach, c.enlist.ensures.knows.1, ap (λ (run : RunValue). run.knows.reach) c.self.view_is, c.requires.reach) in
    let reach = c.dismiss.ensures.reach c.args.goal low c.drive_watched-shot.ensures.enlisted in
    let seats : c.finish.new.pass.knows.share ≡ c.self.inside.field.terms.seats =
    omega (arith, c.finish.ensures.keeps.share, c.dismiss.ensures.seats, c.drive_watched-shot.ensures.many, c.enlist.ensures.many, shot.unmoved.share, c.enlist.ensures.seat, c.self.invariant.2, c.self.invariant.1) in
    let last = c.watch.ensures.shot in
    let whole = last.whole seats in
    let taken : HasShot c.self.inside.field.terms c.finish.new.pass.knows c.watch.new.pass.knows c.watch.new.room = last.taken (last.never_busy seats) in (
      omega (arith, ap (λ l. slice_index l r) c.enlist.ensures.knows.0, ap (λ (run : RunValue). slice_index run.knows.seen r) c.self.view_is, shot.unmoved.seen.later r, c.dismiss.ensures.later r, c.finish.ensures.keeps.seen.later r, taken.later r here),
      omega (arith, whole.reached r here, last.unmoved.reach, c.finish.ensures.keeps.reach, reach, begun),
    )

pub returns-in_default-clause-told : goal.returns-in_default-clause-told
returns-in_default-clause-told g c =
    let setup : SetupValue = c.self.inside.field.terms.setup.now in
    let shot = c.drive_watched-shot.ensures.watched.shot in
    let from : AreFrom c.args.self.now.knows.log c.drive_watched-shot.new.self.members c.dismiss.new.pass.knows.log =
    subst (λ own. AreFrom own c.drive_watched-shot.new.self.members c.dismiss.new.pass.knows.log) (shot.unmoved.log ∙ c.enlist.ensures.knows.2 ∙ ap (λ (run : RunValue). run.knows.log) c.self.view_is) c.dismiss.ensures.log in
    subst (λ (run : RunValue). AreTold (g.W.Observer.told_held c.args.observer.now (cut_run run.terms.setup.now)) (g.W.Observer.told_freed c.args.observer.now (cut_run run.terms.setup.now)) c.args.self.now.knows.log c.finish.new.pass.knows.log)
    c.self.view_is
    (told-taken (g.W.Observer.told_held c.args.observer.now (cut_run setup)) (g.W.Observer.told_freed c.args.observer.now (cut_run setup)) c.args.self.now.knows.log c.dismiss.new.pass.knows.log c.finish.new.pass.knows.log
    c.enlist.new.self.members c.drive_watched-shot.new.self.members c.drive_watched-shot.ensures.many c.enlist.ensures.nothing c.drive_watched-shot.ensures.told from c.finish.ensures.told)

pub returns-in-Busy-clause-told : goal.returns-in-Busy-clause-told
returns-in-Busy-clause-told g c =
    let setup : SetupValue = c.self.inside.field.terms.setup.now in
    let held : ℕ → ℕ → Type 0 = g.W.Observer.told_held c.args.observer.now (cut_run setup) in
    let freed : ℕ → ℕ → Type 0 = g.W.Observer.told_freed c.args.observer.now (cut_run setup) in
    let shot = c.drive_watched-shot.ensures.watched.shot in
    let from : AreFrom c.args.self.now.knows.log c.drive_watched-shot.new.self.members c.dismiss.new.pass.knows.log =
    subst (λ own. AreFrom own c.drive_watched-shot.new.self.members c.dismiss.new.pass.knows.log) (shot.unmoved.log ∙ c.enlist.ensures.knows.2 ∙ ap (λ (run : RunValue). run.knows.log) c.self.view_is) c.dismiss.ensures.log in
    let finished : AreTold held freed c.args.self.now.knows.log c.finish.new.pass.knows.log =
    told-taken held freed c.args.self.now.knows.log c.dismiss.new.pass.knows.log c.finish.new.pass.knows.log
    c.enlist.new.self.members c.drive_watched-shot.new.self.members c.drive_watched-shot.ensures.many c.enlist.ensures.nothing c.drive_watched-shot.ensures.told from c.finish.ensures.told in
    subst (λ (run : RunValue). AreTold (g.W.Observer.told_held c.args.observer.now (cut_run run.terms.setup.now)) (g.W.Observer.told_freed c.args.observer.now (cut_run run.terms.setup.now)) c.args.self.now.knows.log c.watch.new.pass.knows.log)
    c.self.view_is
    (subst (λ log. AreTold held freed c.args.self.now.knows.log log) (sym c.watch.ensures.shot.unmoved.log) finished)

-- the steps that the watcher had seen before its shot
pub returns-in_default-clause-told_before : goal.returns-in_default-clause-told_before
returns-in_default-clause-told_before g c =
    let shot = c.drive_watched-shot.ensures.watched.shot in
    let taken : HasShot c.self.inside.field.terms c.enlist.new.pass.knows c.drive_watched-shot.new.watcher.knows c.drive_watched-shot.new.room = shot.taken (not-busy c.drive_watched-shot.result c.in_default.not-Busy) in (
      c.enlist.new.pass.knows.seen,
      subst (λ (run : RunValue). g.W.Observer.told_watching c.args.observer.now (cut_run run.terms.setup.now) c.enlist.new.pass.knows.seen) c.self.view_is c.drive_watched-shot.ensures.told_shot.0,
      (λ r there.
          let here : r < region_count c.self.inside.field.terms.setup.now.chart.cut = omega (arith, there, ap (λ (run : RunValue). region_count run.terms.setup.now.chart.cut) c.self.view_is) in (
            omega (arith, ap (λ l. slice_index l r) c.enlist.ensures.knows.0, ap (λ (run : RunValue). slice_index run.knows.seen r) c.self.view_is),
            taken.later r here,
          )),
    )

pub returns-in_default-clause-told_after : goal.returns-in_default-clause-told_after
returns-in_default-clause-told_after g c =
    let shot = c.drive_watched-shot.ensures.watched.shot in
    let taken : HasShot c.self.inside.field.terms c.enlist.new.pass.knows c.drive_watched-shot.new.watcher.knows c.drive_watched-shot.new.room = shot.taken (not-busy c.drive_watched-shot.result c.in_default.not-Busy) in
    subst (λ (run : RunValue). g.W.Observer.told_watched c.args.observer.now (cut_run run.terms.setup.now) c.drive_watched-shot.new.room.steps Taken) c.self.view_is
    (subst (λ (seen : List ℕ). g.W.Observer.told_watched c.args.observer.now (cut_run c.self.inside.field.terms.setup.now) seen Taken) taken.seen
    (subst (g.W.Observer.told_watched c.args.observer.now (cut_run c.self.inside.field.terms.setup.now) c.drive_watched-shot.new.watcher.knows.seen) (not-busy c.drive_watched-shot.result c.in_default.not-Busy) c.drive_watched-shot.ensures.told_shot.1))

pub returns-in-Busy-clause-told_before : goal.returns-in-Busy-clause-told_before
returns-in-Busy-clause-told_before g c =
    let shot = c.drive_watched-shot.ensures.watched.shot in
    let seats : c.finish.new.pass.knows.share ≡ c.self.inside.field.terms.seats =
    omega (arith, c.finish.ensures.keeps.share, c.dismiss.ensures.seats, c.drive_watched-shot.ensures.many, c.enlist.ensures.many, shot.unmoved.share, c.enlist.ensures.seat, c.self.invariant.2, c.self.invariant.1) in
    let last = c.watch.ensures.shot in
    let taken : HasShot c.self.inside.field.terms c.finish.new.pass.knows c.watch.new.pass.knows c.watch.new.room = last.taken (last.never_busy seats) in (
      c.finish.new.pass.knows.seen,
      subst (λ (run : RunValue). g.W.Observer.told_watching c.args.observer.now (cut_run run.terms.setup.now) c.finish.new.pass.knows.seen) c.self.view_is c.watch.ensures.told_before,
      (λ r there.
          let here : r < region_count c.self.inside.field.terms.setup.now.chart.cut = omega (arith, there, ap (λ (run : RunValue). region_count run.terms.setup.now.chart.cut) c.self.view_is) in (
            omega (arith, ap (λ l. slice_index l r) c.enlist.ensures.knows.0, ap (λ (run : RunValue). slice_index run.knows.seen r) c.self.view_is, shot.unmoved.seen.later r, c.dismiss.ensures.later r, c.finish.ensures.keeps.seen.later r),
            taken.later r here,
          )),
    )

pub returns-in-Busy-clause-told_after : goal.returns-in-Busy-clause-told_after
returns-in-Busy-clause-told_after g c =
    let shot = c.drive_watched-shot.ensures.watched.shot in
    let seats : c.finish.new.pass.knows.share ≡ c.self.inside.field.terms.seats =
    omega (arith, c.finish.ensures.keeps.share, c.dismiss.ensures.seats, c.drive_watched-shot.ensures.many, c.enlist.ensures.many, shot.unmoved.share, c.enlist.ensures.seat, c.self.invariant.2, c.self.invariant.1) in
    let last = c.watch.ensures.shot in
    let taken : HasShot c.self.inside.field.terms c.finish.new.pass.knows c.watch.new.pass.knows c.watch.new.room = last.taken (last.never_busy seats) in
    subst (λ (run : RunValue). g.W.Observer.told_watched c.args.observer.now (cut_run run.terms.setup.now) c.watch.new.room.steps Taken) c.self.view_is
    (subst (λ (seen : List ℕ). g.W.Observer.told_watched c.args.observer.now (cut_run c.self.inside.field.terms.setup.now) seen Taken) taken.seen
    (subst (g.W.Observer.told_watched c.args.observer.now (cut_run c.self.inside.field.terms.setup.now) c.watch.new.pass.knows.seen) (last.never_busy seats) c.watch.ensures.told_after))
