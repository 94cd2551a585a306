use Rattle.std.proofs.Common.{◌≡◌, [], ◌∷◌, refl, ap, ◌∙◌}
use Rattle.connector_flow.specs.Flows.{flow_at}
use Rattle.region_body.specs.Carrying.{three_held}
use Rattle.region_body.specs.CellRefs.{held_before}
use Rattle.region_body.proofs.carry.carried.Goals as goal

pub returns : goal.returns
returns c =
    let held : c.held_before.result ∷ c.held_before-2.result ∷ c.held_before-3.result ∷ [] ≡ three_held c.args.connector.now (held_before c.args.before.now c.args.put.now) =
    rw (c.held_before.ensures, c.held_before-2.ensures, c.held_before-3.ensures) refl in
    c.flow.ensures.later c.args.t c.requires.step c.requires.until
    ∙ ap (flow_at c.args.connector.now.timeline c.args.t) (c.given.ensures (held_before c.args.before.now c.args.put.now) held)
