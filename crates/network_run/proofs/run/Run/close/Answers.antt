use Rattle.std.proofs.Common.{subst, arith}
use Rattle.region_cut.specs.Cuttings.{region_count}
use Rattle.region_step.specs.Regions.{HaveCome}
use Rattle.border_rows.specs.declared.view.Terms.{Terms}
use Rattle.border_rows.specs.declared.view.View.{View}
use Rattle.network_run.specs.Run.{AreWhereTheyCame, IsLoggedWhereTheyCame, RunValue}
use Rattle.network_run.proofs.Ending.{all-at}
use Rattle.network_run.proofs.Told.{logged-ended}
use Rattle.network_run.proofs.run.Run.close.Goals as goal

pub returns-clause-come : goal.returns-clause-come
returns-clause-come c =
    subst (λ (run : RunValue). HaveCome run.terms.setup.now c.close.result.steps.items c.close.result.regions.items) c.self.view_is c.close.ensures.come

pub returns-clause-steps : goal.returns-clause-steps
returns-clause-steps c =
    let terms : Terms = c.self.inside.field.terms in
    let closed = c.close.ensures in
    subst (λ (run : RunValue). AreWhereTheyCame run c.close.result.steps.items) c.self.view_is
    (λ goal came low early. all-at terms.setup.now.chart.cut c.close.result.steps.items goal closed.come.one_each
    (λ r there. omega (arith, came r there, closed.later r there)) (λ r there. omega (arith, closed.reached r there, early r there, low)))

pub returns-clause-logged : goal.returns-clause-logged
returns-clause-logged c =
    let terms : Terms = c.self.inside.field.terms in
    let knows : View = c.self.inside.pass.knows in
    let closed = c.close.ensures in
    subst IsLoggedWhereTheyCame c.self.view_is
    (λ goal came. logged-ended terms.setup.now.start (region_count terms.setup.now.chart.cut) c.close.result.steps.items knows.log goal closed.logged (λ r there. omega (arith, came r there, closed.later r there)))
