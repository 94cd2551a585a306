use Rattle.std.proofs.Common.{◌∙◌}
use Rattle.plan_choice.proofs.WholeRun.{one-region, zeros-cutting}
use Rattle.plan_choice.proofs.whole_run.whole.Goals as goal

pub known-requires : goal.known-requires
known-requires c = zeros-cutting c.len.result c.in_ok-regions.regions.items (c.in_ok-regions.ensures.items_if_clones_equal (λ y same. same))

pub returns-clause-one : goal.returns-clause-one
returns-clause-one c = one-region c.len.result c.known.result (c.known.ensures ∙ c.in_ok-regions.ensures.items_if_clones_equal (λ y same. same))
