use Rattle.std.proofs.Common.{◌≡◌, ◌<◌, ◌≤◌, All, vec_len}
use Rattle.number_deques.proofs.nest.Nest.steal.Given as goal

abbrev pub invariant-loop-k : goal.invariant-loop-k
invariant-loop-k l = (l.self-inside.own ≡ l.initial.self-inside.own) × (vec_len l.self-inside.others ≡ vec_len l.initial.self-inside.others) × All (λ regions. regions ≡ l.self-inside.own) l.self-inside.others.items
    × All (λ region. region < l.self-inside.own) l.self-inside.refused.items × (1 ≤ l.self-inside.chunk_size)
