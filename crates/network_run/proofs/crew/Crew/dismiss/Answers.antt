use Rattle.std.specs.List.{Contains}
use Rattle.std.proofs.Common.{◌≡◌, ◌∷◌, ◌++◌, ℕ, [], length, sym, ap, subst, ◌∙◌, arith}
use Rattle.std.proofs.lemmas.List.{length-append}
use Rattle.worker_claim.specs.declared.member.Member.{Member}
use Rattle.network_run.specs.Crews.{CrewValue, HasLeft}
use Rattle.network_run.specs.Enlisted.{AreEnlisted, IsEnlisted}
use Rattle.network_run.proofs.Crewing.{All-fewer, All-last}
use Rattle.region_slots.specs.FieldView.{PassValue}
use Rattle.network_run.specs.Run.{AreFrom}
use Rattle.network_run.proofs.Told.{among-more, from-more}
use Rattle.network_run.proofs.crew.Crew.dismiss.Goals as goal

pub dismiss_one-requires-clause-enlisted : goal.dismiss_one-requires-clause-enlisted
dismiss_one-requires-clause-enlisted c = (c.requires.enlisted.0, c.loop.invariant.4 c.requires.enlisted.0 c.requires.enlisted.1)

pub loop-preserved : goal.loop-preserved
loop-preserved c =
    let field = c.args.field.now in
    let inv = c.loop.invariant in
    let now : CrewValue = c.dismiss_one.new.self in
    let left : HasLeft field c.loop.pass c.dismiss_one.new.pass c.loop.self now = c.dismiss_one.ensures.left c.loop-test.true in
    let member : Member = left.member in
    let split : c.loop.self.members ≡ now.members ++ member ∷ [] = ap (λ (crew : CrewValue). crew.members) left.members in
    let was : (most : ℕ) → AreEnlisted field most c.args.self.now.members → AreEnlisted field most (now.members ++ member ∷ []) = λ most all. subst (AreEnlisted field most) split (inv.4 most all) in
    let among : (m : Member) → Contains (now.members ++ member ∷ []) m → Contains c.args.self.now.members m = λ m has. inv.8 m (subst (λ list. Contains list m) (sym split) has) in
    let one : (most : ℕ) → AreEnlisted field most c.args.self.now.members → IsEnlisted field most member = λ most all. All-last (IsEnlisted field most) now.members member (was most all) in (
      sym (ap (λ (crew : CrewValue). crew.workers) left.members) ∙ inv.0,
      sym (ap (λ (crew : CrewValue). crew.regions) left.members) ∙ inv.1,
      left.belongs,
      omega (arith, left.share, inv.3, ap length split, length-append now.members (member ∷ []), (one c.requires.enlisted.0 c.requires.enlisted.1).share),
      (λ most all. All-fewer (IsEnlisted field most) now.members member (was most all)),
      (λ r. omega (arith, inv.5 r, left.later r)),
      (λ most low all. omega (arith, inv.6 most low all, left.reach, (one most all).reach)),
      (λ some share. left.reached share),
      among-more c.args.self.now.members now.members member among,
      from-more c.args.pass.now.knows.log c.args.self.now.members now.members member c.loop.pass.knows.log c.dismiss_one.new.pass.knows.log among inv.9 left.log,
    )

pub returns-clause-log : goal.returns-clause-log
returns-clause-log c =
    subst (λ (pass : PassValue). AreFrom c.args.pass.now.knows.log c.args.self.now.members pass.knows.log) (sym (c.dismiss_one.ensures.none c.loop-test.false).2) c.loop.invariant.9
