use Rattle.std.proofs.Common.{◌≡◌, ◌<◌, ◌≤◌, All, vec_len}
use Rattle.number_deques.proofs.nest.Nest.push_refused.Given as goal

abbrev pub invariant-loop-region : goal.invariant-loop-region
invariant-loop-region l = (l.self-inside.own ≡ l.initial.self-inside.own) × (vec_len l.self-inside.others ≡ vec_len l.initial.self-inside.others) × All (λ regions. regions ≡ l.self-inside.own) l.self-inside.others.items
    × All (λ region. region < l.self-inside.own) l.self-inside.refused.items × (1 ≤ l.self-inside.chunk_size)

abbrev pub decreases-loop-region : goal.decreases-loop-region
decreases-loop-region l = vec_len l.self-inside.refused
