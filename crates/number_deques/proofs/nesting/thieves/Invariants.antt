use Rattle.std.proofs.Common.{◌≡◌, ◌+◌, ℕ, All, vec_len}
use Rattle.number_deques.proofs.nesting.thieves.Given as goal

abbrev pub invariant-loop-k : goal.invariant-loop-k
invariant-loop-k l = (l.deques ≡ l.initial.deques) × (vec_len l.thieves + 1 ≡ l.k)
    × ((regions : ℕ) → All (λ deque. deque ≡ regions) l.deques → All (λ thief. thief ≡ regions) l.thieves.items)
