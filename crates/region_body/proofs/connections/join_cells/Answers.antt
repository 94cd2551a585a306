use Rattle.std.specs.Prelude.{All}
use Rattle.std.proofs.Common.{◌≡◌, ◌<◌, ℕ, true, false, length, get_or, ap, subst, arith}
use Rattle.network_file.specs.Numbered.{connector_at}
use Rattle.network_file.proofs.NetworkFacts.{read_connector}
use Rattle.region_body.specs.FollowedLinks.{IsLinkThere}
use Rattle.region_body.specs.Chains.{is_chained, is_link}
use Rattle.region_body.proofs.Extending.{joined-chained, joined-none, joined-odd}
use Rattle.region_body.proofs.connections.join_cells.Goals.{in-Some+in_ok-join_next-in-Some, in-None+in_ok-connector_of-in-None+in_ok-push-in-None}
use Rattle.region_body.proofs.connections.join_cells.Goals as goal

pub loop-k-init : goal.loop-k-init
loop-k-init c =
    rw (c.new-links.ensures.items, c.new-connectors.ensures.items)
    (joined-none c.args.net.now c.args.t c.args.region.now.order.now.placed c.args.region.now.halo.now c.args.region.now.connectors.now c.args.states.now c.requires.apart)

pub loop-k-preserved : goal.loop-k-preserved
loop-k-preserved c =
    let net = c.args.net.now in
    let t : ℕ = c.args.t in
    let cells = c.args.region.now.order.now.placed in
    let halo = c.args.region.now.halo.now in
    let connectors = c.args.region.now.connectors.now in
    let j : ℕ = c.loop-k.k-index in
    let k : ℕ = get_or connectors j 0 in
    let within : j < length connectors = c.loop-k-test.true in
    let read : connector_at net.connectors k ≡ c.index.result.now =
    read_connector c.net.inside.connectors.items net.connectors k c.index.result.now (ap (λ net. net.connectors) c.net.view_is)
    (c.requires.connectors j 0 within) c.index.ensures in
    elim c.match-chained.branch [
      | in-Some+in_ok-join_next-in-Some w ↦
          let linked : is_link cells w.in-Some.p (connector_at net.connectors k) ≡ true = rw read w.in-Some.ensures in
          let done = w.in_ok-join_next-in-Some.ensures in
          let same : length c.loop-k.states ≡ length cells = omega (arith, c.requires.one_each) in
          let there : All (IsLinkThere (length cells) t) w.join_next.new.links.items =
          subst (λ n. All (IsLinkThere n t) w.join_next.new.links.items) same done.links in
          rw (w.states-is, w.links-is, w.connectors-is)
          (joined-chained net t cells halo connectors c.args.states.now c.loop-k.states w.join_next.new.states c.loop-k.links.items w.join_next.new.links.items
          c.loop-k.connectors.items j w.in-Some.p within c.requires.distinct linked c.loop-k.invariant there done.at w.join_next.ensures.only_most (rw c.placed-placed.ensures at done.followed))
      | in-None+in_ok-connector_of-in-None+in_ok-push-in-None w ↦
          let odd : is_chained cells (connector_at net.connectors k) ≡ false = rw read w.in-None.ensures in
          rw (w.states-is, w.links-is, w.connectors-is, w.in_ok-push-in-None.ensures.items)
          (joined-odd net t cells halo connectors c.args.states.now c.loop-k.states c.loop-k.links.items c.loop-k.connectors.items w.in_ok-connector_of-in-None.field-0 j within odd
          w.in_ok-connector_of-in-None.ensures.number w.in_ok-connector_of-in-None.ensures.connected w.in_ok-connector_of-in-None.ensures.step c.loop-k.invariant)
    ]
