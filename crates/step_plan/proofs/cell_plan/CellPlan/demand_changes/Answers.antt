use Rattle.std.specs.Prelude.{sum_by}
use Rattle.std.proofs.Common.{◌<◌, ◌^◌, ap, subst, sym, ◌∙◌}
use Rattle.std.proofs.lemmas.Result.{IfOk-weaker}
use Rattle.step_plan.specs.Demand.{demand_at}
use Rattle.step_plan.specs.Records.{DemandRecord, in_range}
use Rattle.step_plan.proofs.Given.{given_by-sum}
use Rattle.step_plan.proofs.Totals.{brings}
use Rattle.step_plan.proofs.cell_plan.CellPlan.demand_changes.Goals as goal

pub record_changes-requires : goal.record_changes-requires
unfolding demand_at
record_changes-requires c = record {
  fits = λ t.
      let given = given_by-sum (λ (d : DemandRecord). d.amount) (λ d step. in_range d.from d.to step) c.demands.result.now t in
      subst (λ amount. amount < 2 ^ 64) (sym (given ∙ ap (sum_by (λ demand. brings demand t)) c.demands.ensures)) (c.requires.fits t);
}

pub returns-clause-in_force : goal.returns-clause-in_force
unfolding demand_at
returns-clause-in_force c =
    IfOk-weaker c.record_changes.result _ _ (λ changes same t.
    same t ∙
    given_by-sum (λ (d : DemandRecord). d.amount) (λ d step. in_range d.from d.to step) c.demands.result.now t ∙
    ap (sum_by (λ demand. brings demand t)) c.demands.ensures)
    c.record_changes.ensures.in_force
