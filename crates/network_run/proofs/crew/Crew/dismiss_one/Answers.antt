use Rattle.std.specs.Prelude.{slice_index}
use Rattle.std.proofs.Common.{◌≡◌, ◌∷◌, ◌++◌, ℕ, List, [], length, sym, ap, subst, ◌∙◌, arith}
use Rattle.std.proofs.lemmas.List.{length-append, map-append}
use Rattle.number_deques.specs.Nests.{NestValue}
use Rattle.worker_claim.specs.declared.helper.Helper.{Helper}
use Rattle.worker_claim.specs.declared.member.Member.{Member}
use Rattle.network_run.specs.Crews.{AreHelpersFor, AreNestsFor, CrewValue}
use Rattle.network_run.proofs.Crewing.{All-fewer, All-last, All-one_more, last-enlisted, members_of}
use Rattle.network_run.proofs.Crewing.{united-later}
use Rattle.network_run.proofs.crew.Crew.dismiss_one.Goals as goal

pub unite-requires-clause-also : goal.unite-requires-clause-also
unite-requires-clause-also c =
    let (most, all) = c.requires.enlisted in
    (last-enlisted c.args.field.now most c.args.self.now.members c.self.inside.helpers.items c.pop.new.self.items c.in-Some.helper
    (ap (λ (crew : CrewValue). crew.members) c.self.view_is) c.in-Some.ensures.items all).belongs.belongs

pub invariant_of-self-2 : goal.invariant_of-self-2
invariant_of-self-2 c =
    let workers : ℕ = c.self.inside.workers in
    let regions : ℕ = c.self.inside.regions in
    let left : List Helper = c.pop.new.self.items in
    let helper : Helper = c.in-Some.helper in
    let nests : List NestValue = c.self.inside.nests.items in
    let inv = c.self.invariant in
    let helpers : AreHelpersFor workers regions (left ++ helper ∷ []) = subst (AreHelpersFor workers regions) c.in-Some.ensures.items inv.4 in
    let nest : helper.nest ≡ record { members = workers; regions = regions } = All-last (λ (h : Helper). h.nest ≡ record { members = workers; regions = regions }) left helper helpers in (
      omega (arith, inv.0, ap length c.push_reserved.ensures.items, length-append nests (helper.nest ∷ []), ap length c.in-Some.ensures.items, length-append left (helper ∷ [])),
      omega (arith, inv.1, c.push_reserved.ensures.capacity),
      omega (arith, inv.2, c.pop.ensures.capacity),
      subst (AreNestsFor workers regions) (sym c.push_reserved.ensures.items) (All-one_more (λ (n : NestValue). n ≡ record { members = workers; regions = regions }) nests helper.nest inv.3 nest),
      All-fewer (λ (h : Helper). h.nest ≡ record { members = workers; regions = regions }) left helper helpers,
    )

pub returns-clause-left : goal.returns-clause-left
returns-clause-left c =
    let left : List Helper = c.pop.new.self.items in
    let helper : Helper = c.in-Some.helper in
    let knows = c.unite.ensures.knows in
    λ is. record {
      member = helper.member;
      members = sym c.self.view_is ∙ ap (λ (members : List Member). record { workers = c.self.inside.workers; regions = c.self.inside.regions; members = members })
          (ap members_of c.in-Some.ensures.items ∙ map-append (λ (h : Helper). h.member) left (helper ∷ []));
      belongs = c.unite.ensures.belongs;
      share = ap (λ v. v.share) knows;
      later = λ r. omega (arith, united-later c.args.pass.now.knows helper.member.pass.knows r, ap (λ v. slice_index v.seen r) knows);
      reach = ap (λ v. v.reach) knows;
      log = ap (λ v. v.log) knows;
      reached = c.unite.ensures.whole;
    }
