use Rattle.std.proofs.Common.{◌≡◌, All, vec_len}
use Rattle.number_deques.proofs.nesting.deques.Given as goal

abbrev pub invariant-loop : goal.invariant-loop
invariant-loop l = (vec_len l.deques ≡ l.counter) × All (λ deque. deque ≡ l.regions) l.deques.items
