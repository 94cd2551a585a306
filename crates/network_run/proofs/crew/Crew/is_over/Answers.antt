use Rattle.std.specs.Prelude.{All}
use Rattle.std.proofs.Common.{◌≡◌, inr, List, sym, ap, subst, ◌∙◌}
use Rattle.std.proofs.lemmas.Bool.{both_ways}
use Rattle.std.proofs.lemmas.List.Elements.{All-map}
use Rattle.worker_claim.specs.declared.helper.Helper.{Helper}
use Rattle.worker_claim.specs.declared.member.Member.{Member}
use Rattle.network_run.specs.Crews.{CrewValue}
use Rattle.network_run.proofs.Crewing.{All-from_map}
use Rattle.network_run.proofs.RoundCounts.{some-moved}
use Rattle.network_run.proofs.crew.Crew.is_over.Goals as goal

pub returns-else-is_done-clause-over : goal.returns-else-is_done-clause-over
returns-else-is_done-clause-over c = λ is.
    inr (subst (All (λ (member : Member). member.driven.moved ≡ 0)) (ap (λ (crew : CrewValue). crew.members) c.self.view_is)
    (All-map (λ (member : Member). member.driven.moved ≡ 0) (λ (helper : Helper). helper.member) c.self.inside.helpers.items
    (subst (λ (helpers : List Helper). All (λ (helper : Helper). helper.member.driven.moved ≡ 0) helpers) c.deref.ensures.value (c.none_moved.ensures.0 is))))

pub returns-else-is_done-clause-going : goal.returns-else-is_done-clause-going
returns-else-is_done-clause-going c = λ is. record {
  none_done = sym c.is_done.ensures ∙ c.if-is_done.false;
  moved = some-moved c.args.self.now.members (λ none. both_ways c.none_moved.result is
      (c.none_moved.ensures.1 (subst (λ (helpers : List Helper). All (λ (helper : Helper). helper.member.driven.moved ≡ 0) helpers) (sym c.deref.ensures.value)
      (All-from_map (λ (member : Member). member.driven.moved ≡ 0) (λ (helper : Helper). helper.member) c.self.inside.helpers.items
      (subst (All (λ (member : Member). member.driven.moved ≡ 0)) (sym (ap (λ (crew : CrewValue). crew.members) c.self.view_is)) none)))));
}
