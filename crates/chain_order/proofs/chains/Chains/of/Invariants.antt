use Rattle.std.proofs.Common.{◌≡◌, length}
use Rattle.chain_order.proofs.chains.Chains.of.Given as goal

abbrev pub invariant-loop-k : goal.invariant-loop-k
invariant-loop-k l = l.chains ≡ length l.cells
