use Rattle.std.specs.Prelude.{slice_index_or}
use Rattle.std.proofs.Common.{ℕ, subst, rules}
use Rattle.region_slots.specs.FieldView.{PassValue}
use Rattle.region_slots.specs.Moments.{AreTold, cut_run}
use Rattle.parked_crew.specs.Parking.{IsBrought}
use Rattle.parked_crew.proofs.parking.parked.Goals as goal

pub returns : goal.returns
returns g c =
    let held : ℕ → ℕ → Type 0 = g.W.Observer.told_held c.args.observer.now (cut_run c.args.field.now.terms.setup.now) in
    let freed : ℕ → ℕ → Type 0 = g.W.Observer.told_freed c.args.observer.now (cut_run c.args.field.now.terms.setup.now) in record {
      brought = record {
        one_each = search rules;
        each = λ k d within.
            let at = (c.for_each_mut.ensures k d within).1 in
            subst (λ (p : PassValue). IsBrought c.args.field.now c.args.goal p (slice_index_or c.for_each_mut.new.s k d)) at.argument_is
            (subst (λ (p : PassValue). IsBrought c.args.field.now c.args.goal at.argument.now p) at.left at.call.0);
      };
      told = record {
        each = λ k d within.
            let at = (c.for_each_mut.ensures k d within).1 in
            subst (λ (p : PassValue). AreTold held freed p.knows.log (slice_index_or c.for_each_mut.new.s k d).knows.log) at.argument_is
            (subst (λ (p : PassValue). AreTold held freed at.argument.now.knows.log p.knows.log) at.left at.call.1);
      };
    }
