use Rattle.std.proofs.Common.{◌≡◌, sym, ap, ◌∙◌}
use Rattle.std.proofs.lemmas.List.{get_or_default, get_or_past}
use Rattle.step_plan.specs.Speeds.{arriving}
use Rattle.step_plan.proofs.Laws.{arriving-own}
use Rattle.cell_sweep.specs.Speeds.{ratio_at}
use Rattle.cell_sweep.proofs.movement.reaching.Goals as goal

pub returns-then-p-speeds-clause-speed : goal.returns-then-p-speeds-clause-speed
returns-then-p-speeds-clause-speed c =
    let own : ratio_at c.args.speeds.now c.args.p ≡ c.index-speeds-p.result =
    get_or_default c.args.speeds.now c.args.p (1, 1) c.index-speeds-p.result c.if-p-speeds.true ∙ sym c.index-speeds-p.is in
    c.part.ensures.part ∙ ap (λ speed. arriving speed c.args.n) (sym own)
