use Rattle.std.proofs.Common.{◌≡◌, ℕ, subst, ap, ◌∙◌, arith}
use Rattle.step_plan.specs.Turning.{shares_at}
use Rattle.network_file.specs.Sound.{IsNetwork}
use Rattle.network_file.specs.declared.connector.Connector.TheVariants.{Link, Merge, Diverge}
use Rattle.timelines.specs.Timelines.{value_at}
use Rattle.connector_flow.proofs.Made.{diverge-cells, made-diverge, made-link, made-merge, made-read, merge-cells, read-as}
use Rattle.connector_flow.proofs.Weights.{constant-within, shares-within}
use Rattle.connector_flow.proofs.connector_timeline.ConnectorTimeline.new.Goals as goal

pub made_of-requires-in-Merge-clause-cells : goal.made_of-requires-in-Merge-clause-cells
made_of-requires-in-Merge-clause-cells c =
    let merge = c.in-Merge in
    let read = read-as c.args.net.now c.net.inside.connectors.items c.args.k c.index.result.now (Merge merge.up1 merge.up2 merge.down merge.p1 merge.p2)
    (subst IsNetwork c.net.view_is c.net.invariant) (ap (λ net. net.connectors) c.net.view_is) c.requires.has_connector c.index.ensures merge.is in
    merge-cells c.args.net.now merge.up1 merge.up2 merge.down merge.p1 merge.p2 read.sound

pub made_of-requires-in-Merge-clause-weights : goal.made_of-requires-in-Merge-clause-weights
made_of-requires-in-Merge-clause-weights c =
    let merge = c.in-Merge in
    let read = read-as c.args.net.now c.net.inside.connectors.items c.args.k c.index.result.now (Merge merge.up1 merge.up2 merge.down merge.p1 merge.p2)
    (subst IsNetwork c.net.view_is c.net.invariant) (ap (λ net. net.connectors) c.net.view_is) c.requires.has_connector c.index.ensures merge.is in
    let weights = c.constant-weights-in-Merge in
    constant-within weights.result merge.p1 merge.p2 weights.ensures.value (read.sound.weights 0 0 (omega arith)) (read.sound.weights 1 0 (omega arith))

pub made_of-requires-in-Diverge-clause-cells : goal.made_of-requires-in-Diverge-clause-cells
made_of-requires-in-Diverge-clause-cells c =
    let diverge = c.in-Diverge in
    let read = read-as c.args.net.now c.net.inside.connectors.items c.args.k c.index.result.now
    (Diverge diverge.up diverge.down1 diverge.down2 diverge.b1 diverge.b2) (subst IsNetwork c.net.view_is c.net.invariant)
    (ap (λ net. net.connectors) c.net.view_is) c.requires.has_connector c.index.ensures diverge.is in
    diverge-cells c.args.net.now diverge.up diverge.down1 diverge.down2 diverge.b1 diverge.b2 read.sound

pub made_of-requires-in-Diverge-clause-weights : goal.made_of-requires-in-Diverge-clause-weights
made_of-requires-in-Diverge-clause-weights c =
    let diverge = c.in-Diverge in
    let read = read-as c.args.net.now c.net.inside.connectors.items c.args.k c.index.result.now
    (Diverge diverge.up diverge.down1 diverge.down2 diverge.b1 diverge.b2) (subst IsNetwork c.net.view_is c.net.invariant)
    (ap (λ net. net.connectors) c.net.view_is) c.requires.has_connector c.index.ensures diverge.is in
    let weights = c.in_ok-weights-in-Diverge in
    let are : (t : ℕ) → value_at weights.weights t ≡ shares_at c.args.net.now.plan diverge.up t (diverge.b1, diverge.b2) =
    λ t. weights.ensures.shares t ∙ ap (λ net. shares_at net.plan diverge.up t (diverge.b1, diverge.b2)) c.net.view_is in
    shares-within c.args.net.now weights.weights diverge.up diverge.b1 diverge.b2 read.network
    (read.sound.weights 0 0 (omega arith)) (read.sound.weights 1 0 (omega arith)) are

pub returns-in-Link-clause-timeline : goal.returns-in-Link-clause-timeline
returns-in-Link-clause-timeline c =
    let net = c.args.net.now in
    let link = c.in-Link in
    let read = read-as net c.net.inside.connectors.items c.args.k c.index.result.now (Link link.up link.down)
    (subst IsNetwork c.net.view_is c.net.invariant) (ap (λ net. net.connectors) c.net.view_is) c.requires.has_connector c.index.ensures link.is in
    made-read net c.args.k (Link link.up link.down) _ c.made_of.result read
    (λ timeline made. made-link net link.up link.down c.constant-weights.result timeline read.network read.sound made) c.made_of.ensures

pub returns-in-Merge-clause-timeline : goal.returns-in-Merge-clause-timeline
returns-in-Merge-clause-timeline c =
    let net = c.args.net.now in
    let merge = c.in-Merge in
    let read = read-as net c.net.inside.connectors.items c.args.k c.index.result.now (Merge merge.up1 merge.up2 merge.down merge.p1 merge.p2)
    (subst IsNetwork c.net.view_is c.net.invariant) (ap (λ net. net.connectors) c.net.view_is) c.requires.has_connector c.index.ensures merge.is in
    let weights = c.constant-weights-in-Merge in
    made-read net c.args.k (Merge merge.up1 merge.up2 merge.down merge.p1 merge.p2) _ c.made_of-in-Merge.result read
    (λ timeline made. made-merge net merge.up1 merge.up2 merge.down merge.p1 merge.p2 weights.result timeline read.network read.sound weights.ensures.value made)
    c.made_of-in-Merge.ensures

pub returns-in_ok-weights-in-Diverge-clause-timeline : goal.returns-in_ok-weights-in-Diverge-clause-timeline
returns-in_ok-weights-in-Diverge-clause-timeline c =
    let net = c.args.net.now in
    let diverge = c.in-Diverge in
    let read = read-as net c.net.inside.connectors.items c.args.k c.index.result.now (Diverge diverge.up diverge.down1 diverge.down2 diverge.b1 diverge.b2)
    (subst IsNetwork c.net.view_is c.net.invariant) (ap (λ net. net.connectors) c.net.view_is) c.requires.has_connector c.index.ensures diverge.is in
    let weights = c.in_ok-weights-in-Diverge in
    let are : (t : ℕ) → value_at weights.weights t ≡ shares_at net.plan diverge.up t (diverge.b1, diverge.b2) =
    λ t. weights.ensures.shares t ∙ ap (λ net. shares_at net.plan diverge.up t (diverge.b1, diverge.b2)) c.net.view_is in
    made-read net c.args.k (Diverge diverge.up diverge.down1 diverge.down2 diverge.b1 diverge.b2) _ c.made_of-in-Diverge.result read
    (λ timeline made. made-diverge net diverge.up diverge.down1 diverge.down2 diverge.b1 diverge.b2 weights.weights timeline read.network read.sound are made)
    c.made_of-in-Diverge.ensures
