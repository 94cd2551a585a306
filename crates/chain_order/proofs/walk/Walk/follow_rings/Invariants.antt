use Rattle.std.proofs.Common.{◌≡◌, length}
use Rattle.chain_order.proofs.walk.Walk.follow_rings.Given as goal

abbrev pub invariant-loop-first : goal.invariant-loop-first
invariant-loop-first l = length l.self.placed.items ≡ l.chains
