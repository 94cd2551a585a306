use Rattle.std.specs.List.{list_any}
use Rattle.std.proofs.Common.{List, sym, ap, ◌∙◌}
use Rattle.region_cut.proofs.Anys.{list_any-map}
use Rattle.worker_claim.specs.declared.helper.Helper.{Helper}
use Rattle.worker_claim.specs.declared.member.Member.{Member}
use Rattle.network_run.specs.Crews.{CrewValue}
use Rattle.network_run.specs.Enlisted.{is_some_done}
use Rattle.network_run.proofs.crew.Crew.is_done.Goals as goal

pub returns : goal.returns
returns c =
    c.some_done.ensures ∙ ap (λ (helpers : List Helper). list_any (λ (helper : Helper). helper.member.driven.all) helpers) c.deref.ensures.value ∙
    sym (list_any-map (λ (member : Member). member.driven.all) (λ (helper : Helper). helper.member) c.self.inside.helpers.items) ∙
    ap (λ (crew : CrewValue). is_some_done crew.members) c.self.view_is
