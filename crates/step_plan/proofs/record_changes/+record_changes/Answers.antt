use Rattle.std.proofs.Common.{arith, subst, sym, ◌∙◌}
use Rattle.std.proofs.lemmas.List.{nil_from_length}
use Rattle.std.proofs.lemmas.Result.{IfOk-weaker}
use Rattle.step_plan.proofs.Changes.{in_force-nil}
use Rattle.step_plan.proofs.Given.{given_by-one, given_by-parts_fit, given_by-split}
use Rattle.step_plan.proofs.record_changes.+record_changes.Goals as goal

pub record_changes-requires : goal.record_changes-requires
record_changes-requires g t c κs within =
    let join = g.met.R.Given.Join in (
      omega arith,
      (
        within.0,
        (
          within.1,
          λ step.
              (given_by-parts_fit g.R.Given.Join.Fits g.R.Given.Join.none g.R.Given.Join.joined g.R.Ranged.speaks g.R.Ranged.gives c.args.records.now c.split_at.result.0.now c.split_at.result.1.now _ step
              join.none_joined join.associative join.parts_fit c.split_at.ensures.front c.split_at.ensures.back (c.requires.fits step)).0,
        ),
      ),
    )

pub record_changes-requires-in_default : goal.record_changes-requires-in_default
record_changes-requires-in_default g t c κs within =
    let join = g.met.R.Given.Join in (
      omega arith,
      (
        within.0,
        (
          within.1,
          λ step.
              (given_by-parts_fit g.R.Given.Join.Fits g.R.Given.Join.none g.R.Given.Join.joined g.R.Ranged.speaks g.R.Ranged.gives c.args.records.now c.split_at.result.0.now c.split_at.result.1.now _ step
              join.none_joined join.associative join.parts_fit c.split_at.ensures.front c.split_at.ensures.back (c.requires.fits step)).1,
        ),
      ),
    )

pub merge-requires-clause-fits : goal.merge-requires-clause-fits
merge-requires-clause-fits g t c = λ step.
    let join = g.met.R.Given.Join in
    let whole = given_by-split g.R.Given.Join.none g.R.Given.Join.joined g.R.Ranged.speaks g.R.Ranged.gives c.args.records.now _ _ _ step
    join.none_joined join.associative c.split_at.ensures.front c.split_at.ensures.back in
    rw (c.deref.ensures.value, c.deref-in_default.ensures.value, c.in_ok-older-in_default.ensures.in_force step, c.in_ok-newer-in_default.ensures.in_force step)
    (subst g.R.Given.Join.Fits (sym whole) (c.requires.fits step))

pub returns-in-empty-clause-in_force : goal.returns-in-empty-clause-in_force
returns-in-empty-clause-in_force g t c step =
    let none = nil_from_length c.args.records.now (omega arith) in
    rw (none, c.new.ensures.items) (in_force-nil g.R.Given.Join.none step)

pub returns-in-len1-clause-in_force : goal.returns-in-len1-clause-in_force
returns-in-len1-clause-in_force g t c =
    IfOk-weaker c.changes.result _ _ (λ changes same step.
    same step ∙
    given_by-one g.R.Given.Join.none g.R.Given.Join.joined g.R.Ranged.speaks g.R.Ranged.gives c.args.records.now c.one-item.result step
    g.met.R.Given.Join.joined_none c.in-len1.len_at_least c.in-len1.len_below c.one-item.is)
    c.changes.ensures.in_force

pub returns-in_ok-newer-in_default-clause-in_force : goal.returns-in_ok-newer-in_default-clause-in_force
returns-in_ok-newer-in_default-clause-in_force g t c =
    let join = g.met.R.Given.Join in
    IfOk-weaker c.merge.result _ _ (λ merged same step.
    same step ∙
    rw (c.deref.ensures.value, c.deref-in_default.ensures.value, c.in_ok-older-in_default.ensures.in_force step, c.in_ok-newer-in_default.ensures.in_force step)
    (given_by-split g.R.Given.Join.none g.R.Given.Join.joined g.R.Ranged.speaks g.R.Ranged.gives c.args.records.now _ _ _ step
    join.none_joined join.associative c.split_at.ensures.front c.split_at.ensures.back))
    c.merge.ensures.in_force
