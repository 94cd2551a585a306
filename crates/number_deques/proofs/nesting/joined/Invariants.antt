use Rattle.std.proofs.Common.{◌≡◌, ◌+◌, ℕ, All, vec_len}
use Rattle.number_deques.proofs.nesting.joined.Given as goal

abbrev pub invariant-loop-own : goal.invariant-loop-own
invariant-loop-own l = (vec_len l.others ≡ vec_len l.owns) × (vec_len l.nests + vec_len l.owns ≡ vec_len l.initial.owns)
    × ((regions : ℕ) × All (λ own. own ≡ regions) l.owns.items × All (λ own. own ≡ regions) l.initial.owns.items × All (λ thieves. All (λ thief. thief ≡ regions) thieves.items) l.others.items
    × All (λ nest. nest ≡ record { members = vec_len l.initial.owns; regions = regions }) l.nests.items)
    × All (λ thieves. vec_len thieves + 1 ≡ vec_len l.initial.owns) l.others.items

abbrev pub decreases-loop-own : goal.decreases-loop-own
decreases-loop-own l = vec_len l.owns
