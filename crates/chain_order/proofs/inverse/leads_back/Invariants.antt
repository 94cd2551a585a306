use Rattle.std.proofs.Common.{◌≡◌, ℕ, ◌<◌, get_or, length}
use Rattle.chain_order.proofs.inverse.leads_back.Given as goal

abbrev pub invariant-loop-p : goal.invariant-loop-p
invariant-loop-p l = (q : ℕ) → q < l.p → (get_or l.there q 0 < length l.back) × (get_or l.back (get_or l.there q 0) 0 ≡ q)
