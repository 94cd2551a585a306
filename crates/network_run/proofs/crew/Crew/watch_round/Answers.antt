use Rattle.std.proofs.Common.{◌≡◌, ℕ, List, length, sym, ap, subst, ◌∙◌}
use Rattle.std.proofs.lemmas.List.{with_items_is}
use Rattle.region_slots.specs.Moments.{cut_run}
use Rattle.worker_claim.specs.Helping.{AreHelped, AreHelpersOf}
use Rattle.worker_claim.specs.Telling.{AreHelpersTold}
use Rattle.worker_claim.specs.declared.helper.Helper.{Helper}
use Rattle.network_run.specs.Crews.{CrewValue}
use Rattle.network_run.specs.Enlisted.{AreEnlisted}
use Rattle.network_run.proofs.Crewing.{enlisted-helped, helpers-of}
use Rattle.network_run.proofs.RoundCounts.{round-helped}
use Rattle.network_run.proofs.Told.{helpers-told}
use Rattle.network_run.proofs.crew.Crew.watch_round.Goals as goal

pub crew_watch_hints-requires-clause-helpers : goal.crew_watch_hints-requires-clause-helpers
crew_watch_hints-requires-clause-helpers g c = λ lifetimes outlive.
    subst (AreHelpersOf c.args.field.now) (sym c.deref_mut.ensures.value)
    (helpers-of c.args.field.now c.args.goal c.self.inside.workers c.self.inside.regions c.self.inside.helpers.items (ap (λ (crew : CrewValue). crew.regions) c.self.view_is ∙ c.requires.regions)
    (subst (AreEnlisted c.args.field.now c.args.goal) (sym (ap (λ (crew : CrewValue). crew.members) c.self.view_is)) c.requires.enlisted) c.self.invariant.4)

pub returns-clause-enlisted : goal.returns-clause-enlisted
returns-clause-enlisted g c =
    let field = c.args.field.now in
    let old : List Helper = c.self.inside.helpers.items in
    let new : List Helper = c.crew_watch_hints.new.helpers in
    let helped : AreHelped field c.args.goal 4096 old new = subst (λ (hs : List Helper). AreHelped field c.args.goal 4096 hs new) c.deref_mut.ensures.value c.crew_watch_hints.ensures.helped in
    let long : length new ≡ c.self.inside.helpers.len = c.crew_watch_hints.ensures.helped.one_each ∙ c.deref_mut.ensures.len in
    rw (with_items_is c.self.inside.helpers new long) (enlisted-helped field c.args.goal 4096 old new
    (subst (AreEnlisted field c.args.goal) (sym (ap (λ (crew : CrewValue). crew.members) c.self.view_is)) c.requires.enlisted) helped)

pub returns-clause-round : goal.returns-clause-round
returns-clause-round g c =
    let field = c.args.field.now in
    let old : List Helper = c.self.inside.helpers.items in
    let new : List Helper = c.crew_watch_hints.new.helpers in
    let helped : AreHelped field c.args.goal 4096 old new = subst (λ (hs : List Helper). AreHelped field c.args.goal 4096 hs new) c.deref_mut.ensures.value c.crew_watch_hints.ensures.helped in
    let long : length new ≡ c.self.inside.helpers.len = c.crew_watch_hints.ensures.helped.one_each ∙ c.deref_mut.ensures.len in
    rw (with_items_is c.self.inside.helpers new long, sym (ap (λ (crew : CrewValue). crew.members) c.self.view_is)) (round-helped field c.args.goal old new helped)

pub returns-clause-told : goal.returns-clause-told
returns-clause-told g c =
    let held : ℕ → ℕ → Type 0 = g.W.Observer.told_held c.args.observer.now (cut_run c.args.field.now.terms.setup.now) in
    let freed : ℕ → ℕ → Type 0 = g.W.Observer.told_freed c.args.observer.now (cut_run c.args.field.now.terms.setup.now) in
    let old : List Helper = c.self.inside.helpers.items in
    let new : List Helper = c.crew_watch_hints.new.helpers in
    let told : AreHelpersTold held freed old new = subst (λ (hs : List Helper). AreHelpersTold held freed hs new) c.deref_mut.ensures.value c.crew_watch_hints.ensures.told in
    let same : length new ≡ length old = c.crew_watch_hints.ensures.helped.one_each ∙ ap length c.deref_mut.ensures.value in
    let long : length new ≡ c.self.inside.helpers.len = c.crew_watch_hints.ensures.helped.one_each ∙ c.deref_mut.ensures.len in
    rw (with_items_is c.self.inside.helpers new long, sym (ap (λ (crew : CrewValue). crew.members) c.self.view_is)) (helpers-told held freed old new same told)
