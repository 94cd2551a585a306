use Rattle.std.specs.Int.{w128}
use Rattle.std.proofs.Common.{◌≡◌, ap, rules, subst, to_z, of_z}
use Rattle.network_file.specs.Sound.{IsNetwork}
use Rattle.snapshot.proofs.RunLaws.{link_flow, step_flow}
use Rattle.snapshot.proofs.room.ShotRoom.flight.Goals as goal

pub returns-clause-step_flow : goal.returns-clause-step_flow
returns-clause-step_flow c =
    let rows : c.self.inside.rows.items ≡ c.args.self.now.rows = ap (λ room. room.rows) c.self.view_is in
    let whole : to_z w128 (of_z w128 c.flight.result) ≡ c.flight.result = search rules in
    rw whole (step_flow c.args.net.now c.args.self.now.rows c.args.k c.flight.result (subst IsNetwork c.net.view_is c.net.invariant) c.requires.has_connector (rw (c.deref.ensures.value, rows) at c.flight.ensures.law))

pub returns-clause-link_flow : goal.returns-clause-link_flow
returns-clause-link_flow c =
    let rows : c.self.inside.rows.items ≡ c.args.self.now.rows = ap (λ room. room.rows) c.self.view_is in
    let whole : to_z w128 (of_z w128 c.flight.result) ≡ c.flight.result = search rules in
    rw whole (link_flow c.args.net.now c.args.self.now.rows c.args.k c.flight.result (subst IsNetwork c.net.view_is c.net.invariant) c.requires.has_connector (rw (c.deref.ensures.value, rows) at c.flight.ensures.at_one_step)
    (rw (c.deref.ensures.value, rows) at c.flight.ensures.link))
