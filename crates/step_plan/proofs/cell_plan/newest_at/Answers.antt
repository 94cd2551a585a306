use Rattle.std.proofs.Common.{rules, tests, ◌∙◌}
use Rattle.std.proofs.lemmas.Iterator.Adapters.{YieldsList-from_rev_slice}
use Rattle.std.proofs.lemmas.Iterator.Search.{find_from_yields_List}
use Rattle.step_plan.proofs.cell_plan.newest_at.Goals as goal

pub returns : goal.returns
returns g c =
    c.copied.ensures ∙
    find_from_yields_List (λ one. g.R.Ranged.speaks one c.args.t) _ _ c.find.result c.find.ensures.ran
    (YieldsList-from_rev_slice c.args.records.now cc) (λ x b q k. search (rules, tests))
