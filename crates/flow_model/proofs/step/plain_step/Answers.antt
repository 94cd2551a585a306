use Rattle.std.proofs.Common.{◌≡◌, length, arith, subst, sym, ap, ◌∙◌}
use Rattle.network_file.specs.Sound.{IsNetwork}
use Rattle.flow_model.specs.State.{next_rows}
use Rattle.flow_model.proofs.States.{next_rows-all, next_rows-in_bounds, state_at-next}
use Rattle.flow_model.proofs.step.plain_step.Goals as goal

pub returns-clause-rows : goal.returns-clause-rows
returns-clause-rows c =
    let few : length c.args.net.now.connectors ≡ length c.net.inside.connectors.items =
    ap (λ net. length net.connectors) (sym c.net.view_is) in
    next_rows-all c.args.net.now c.args.t c.loop-k.k c.args.old.now c.loop-k.new
    (omega (arith, few, c.net.inside.connectors.ok.0)) c.loop-k.invariant

pub returns-clause-bounds : goal.returns-clause-bounds
returns-clause-bounds c =
    rw (returns-clause-rows c) (
    next_rows-in_bounds c.args.net.now c.args.t c.args.old.now (subst IsNetwork c.net.view_is c.net.invariant)
    c.requires.in_time c.requires.in_bounds
    )

pub returns-clause-state : goal.returns-clause-state
returns-clause-state c = λ before.
    returns-clause-rows c ∙ ap (next_rows c.args.net.now c.args.t) before ∙ sym (state_at-next c.args.net.now c.args.t)
