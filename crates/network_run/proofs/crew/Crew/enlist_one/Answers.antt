use Rattle.std.proofs.Common.{◌≡◌, ◌∷◌, ◌++◌, ℕ, List, [], length, sym, ap, subst, ◌∙◌, arith}
use Rattle.std.proofs.lemmas.List.{length-append}
use Rattle.number_deques.specs.Nests.{NestValue}
use Rattle.worker_claim.specs.declared.helper.Helper.{Helper}
use Rattle.network_run.specs.Crews.{AreHelpersFor, AreNestsFor}
use Rattle.network_run.proofs.Crewing.{All-fewer, All-last, All-one_more}
use Rattle.network_run.proofs.crew.Crew.enlist_one.Goals as goal

pub invariant_of-self : goal.invariant_of-self
invariant_of-self c =
    let workers : ℕ = c.self.inside.workers in
    let regions : ℕ = c.self.inside.regions in
    let left : List NestValue = c.pop.new.self.items in
    let helpers : List Helper = c.self.inside.helpers.items in
    let helper : Helper = record { member = c.new-member.result; nest = c.fill.new.self } in
    let inv = c.self.invariant in
    let nests : AreNestsFor workers regions (left ++ c.in-Some.nest ∷ []) = subst (AreNestsFor workers regions) c.in-Some.ensures.items inv.3 in
    let nest : helper.nest ≡ record { members = workers; regions = regions } = c.fill.ensures ∙ All-last (λ (n : NestValue). n ≡ record { members = workers; regions = regions }) left c.in-Some.nest nests in (
      omega (arith, inv.0, ap length c.push_reserved.ensures.items, length-append helpers (helper ∷ []), ap length c.in-Some.ensures.items, length-append left (c.in-Some.nest ∷ [])),
      omega (arith, inv.1, c.pop.ensures.capacity),
      omega (arith, inv.2, c.push_reserved.ensures.capacity),
      All-fewer (λ (n : NestValue). n ≡ record { members = workers; regions = regions }) left c.in-Some.nest nests,
      subst (AreHelpersFor workers regions) (sym c.push_reserved.ensures.items) (All-one_more (λ (h : Helper). h.nest ≡ record { members = workers; regions = regions }) helpers helper inv.4 nest),
    )
