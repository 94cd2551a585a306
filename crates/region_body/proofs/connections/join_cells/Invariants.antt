use Rattle.std.proofs.Common.{take}
use Rattle.region_body.proofs.Extending.{AreJoined}
use Rattle.region_body.proofs.connections.join_cells.Given as goal

abbrev pub invariant-loop-k : goal.invariant-loop-k
invariant-loop-k l =
    AreJoined l.net l.t l.region.order.now.placed l.region.halo.now (take l.k-index l.region.connectors.now) l.initial.states l.states l.links.items l.connectors.items
