use Rattle.std.specs.Prelude.{slice_index_or}
use Rattle.std.proofs.Common.{ℕ, subst, rules}
use Rattle.worker_claim.specs.Helping.{IsHelped}
use Rattle.region_slots.specs.Moments.{AreTold, cut_run}
use Rattle.worker_claim.specs.declared.helper.Helper.{Helper}
use Rattle.worker_claim.proofs.helping.crew_hints.Goals as goal

pub returns : goal.returns
returns g c =
    let held : ℕ → ℕ → Type 0 = g.W.Observer.told_held c.args.observer.now (cut_run c.args.field.now.terms.setup.now) in
    let freed : ℕ → ℕ → Type 0 = g.W.Observer.told_freed c.args.observer.now (cut_run c.args.field.now.terms.setup.now) in record {
      helped = record {
        one_each = search rules;
        each = λ k d within.
            let at = (c.for_each_mut.ensures k d within).1 in
            subst (λ (m : Helper). IsHelped c.args.field.now c.args.goal c.args.sweeps m (slice_index_or c.for_each_mut.new.s k d)) at.argument_is
            (subst (λ (m : Helper). IsHelped c.args.field.now c.args.goal c.args.sweeps at.argument.now m) at.left at.call.0);
      };
      told = record {
        each = λ k d within.
            let at = (c.for_each_mut.ensures k d within).1 in
            subst (λ (m : Helper). AreTold held freed m.member.pass.knows.log (slice_index_or c.for_each_mut.new.s k d).member.pass.knows.log) at.argument_is
            (subst (λ (m : Helper). AreTold held freed at.argument.now.member.pass.knows.log m.member.pass.knows.log) at.left at.call.1);
      };
    }
