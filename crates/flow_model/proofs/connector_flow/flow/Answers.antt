use Rattle.std.proofs.Common.{sym, subst, ap}
use Rattle.network_file.specs.Connectors.{cells_of}
use Rattle.network_file.specs.Numbered.{connector_at}
use Rattle.network_file.specs.Sound.{IsNetwork, IsSoundConnector}
use Rattle.flow_model.specs.Bounds.{AreHeldInBounds}
use Rattle.flow_model.specs.FlowLaw.{SendsAtMost, ReceivesAtMost}
use Rattle.flow_model.proofs.Connectors.{flow_between-conserved, flow_between-sends, flow_between-receives}
use Rattle.network_file.proofs.NetworkFacts.{connector_at-sound, read_connector}
use Rattle.flow_model.proofs.connector_flow.flow.Goals as goal

pub carried_by-requires-clause-sound : goal.carried_by-requires-clause-sound
carried_by-requires-clause-sound c =
    let read = read_connector c.net.inside.connectors.items c.args.net.now.connectors c.args.k c.index.result.now
    (ap (λ net. net.connectors) c.net.view_is) c.requires.has_connector c.index.ensures in
    subst (IsSoundConnector c.args.net.now.cells) read
    (connector_at-sound c.args.net.now c.args.k (subst IsNetwork c.net.view_is c.net.invariant) c.requires.has_connector)

pub carried_by-requires-clause-held : goal.carried_by-requires-clause-held
carried_by-requires-clause-held c =
    let read = read_connector c.net.inside.connectors.items c.args.net.now.connectors c.args.k c.index.result.now
    (ap (λ net. net.connectors) c.net.view_is) c.requires.has_connector c.index.ensures in
    subst (λ connector. AreHeldInBounds c.args.net.now c.args.t (cells_of connector) c.args.n) read c.requires.held

pub returns-clause-flow : goal.returns-clause-flow
returns-clause-flow c =
    let read = read_connector c.net.inside.connectors.items c.args.net.now.connectors c.args.k c.index.result.now
    (ap (λ net. net.connectors) c.net.view_is) c.requires.has_connector c.index.ensures in
    rw read c.carried_by.ensures

pub returns-clause-conserved : goal.returns-clause-conserved
returns-clause-conserved c =
    rw c.carried_by.ensures (flow_between-conserved c.args.net.now c.args.t c.index.result.now c.args.n)

pub returns-clause-sent : goal.returns-clause-sent
returns-clause-sent c =
    let connector = connector_at c.args.net.now.connectors c.args.k in
    let sound = connector_at-sound c.args.net.now c.args.k (subst IsNetwork c.net.view_is c.net.invariant) c.requires.has_connector in
    subst (SendsAtMost c.args.net.now c.args.t connector c.args.n) (sym (returns-clause-flow c))
    (flow_between-sends c.args.net.now c.args.t connector c.args.n sound)

pub returns-clause-received : goal.returns-clause-received
returns-clause-received c =
    let connector = connector_at c.args.net.now.connectors c.args.k in
    let sound = connector_at-sound c.args.net.now c.args.k (subst IsNetwork c.net.view_is c.net.invariant) c.requires.has_connector in
    subst (ReceivesAtMost c.args.net.now c.args.t connector c.args.n) (sym (returns-clause-flow c))
    (flow_between-receives c.args.net.now c.args.t connector c.args.n sound)
