use Rattle.std.proofs.Common.{◌≡◌, ◌≤◌, ℕ, List, ap, subst, ◌∙◌, arith}
use Rattle.border_rows.specs.declared.view.PublishedStep.{PublishedStep}
use Rattle.region_slots.specs.Moments.{AreTold, cut_run}
use Rattle.network_run.specs.Run.{RunValue, AreFrom}
use Rattle.network_run.proofs.Told.{told-taken}
use Rattle.network_run.proofs.run.Run.take_to.Goals as goal

pub drive-requires-clause-enlisted : goal.drive-requires-clause-enlisted
drive-requires-clause-enlisted g c = λ lifetimes outlive. c.enlist.ensures.enlisted c.args.goal (omega (arith, ap (λ (run : RunValue). run.knows.reach) c.self.view_is, c.requires.reach))

pub dismiss-requires-clause-enlisted : goal.dismiss-requires-clause-enlisted
dismiss-requires-clause-enlisted g c = (c.args.goal, c.drive.ensures.enlisted)

pub returns-clause-reach : goal.returns-clause-reach
returns-clause-reach g c =
    let low : c.enlist.new.pass.knows.reach ≤ c.args.goal = omega (arith, c.enlist.ensures.knows.1, ap (λ (run : RunValue). run.knows.reach) c.self.view_is, c.requires.reach) in
    omega (arith, c.finish.ensures.keeps.reach, c.dismiss.ensures.reach c.args.goal low c.drive.ensures.enlisted)

pub returns-clause-told : goal.returns-clause-told
returns-clause-told g c =
    let held : ℕ → ℕ → Type 0 = g.W.Observer.told_held c.args.observer.now (cut_run c.self.inside.field.terms.setup.now) in
    let freed : ℕ → ℕ → Type 0 = g.W.Observer.told_freed c.args.observer.now (cut_run c.self.inside.field.terms.setup.now) in
    let own : List PublishedStep = c.args.self.now.knows.log in
    let same : c.enlist.new.pass.knows.log ≡ own = c.enlist.ensures.knows.2 ∙ ap (λ (run : RunValue). run.knows.log) c.self.view_is in
    let from : AreFrom own c.drive.new.self.members c.dismiss.new.pass.knows.log =
    subst (λ (log : List PublishedStep). AreFrom log c.drive.new.self.members c.dismiss.new.pass.knows.log) same c.dismiss.ensures.log in
    subst (λ (run : RunValue). AreTold (g.W.Observer.told_held c.args.observer.now (cut_run run.terms.setup.now)) (g.W.Observer.told_freed c.args.observer.now (cut_run run.terms.setup.now)) own c.finish.new.pass.knows.log) c.self.view_is
    (told-taken held freed own c.dismiss.new.pass.knows.log c.finish.new.pass.knows.log c.enlist.new.self.members c.drive.new.self.members c.drive.ensures.many
    c.enlist.ensures.nothing c.drive.ensures.told from c.finish.ensures.told)
