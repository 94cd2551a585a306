use Rattle.std.proofs.Common.{◌≡◌, ◌+◌, All, vec_len}
use Rattle.number_deques.proofs.nesting.nests.Given as goal

abbrev pub invariant-loop-number : goal.invariant-loop-number
invariant-loop-number l = (vec_len l.owns ≡ l.members) × All (λ own. own ≡ l.regions) l.owns.items × (vec_len l.others ≡ l.number)
    × All (λ thieves. (vec_len thieves + 1 ≡ l.members) × All (λ thief. thief ≡ l.regions) thieves.items) l.others.items
