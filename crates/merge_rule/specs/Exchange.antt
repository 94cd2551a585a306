-- The merge with the senders in the other order.
use Rattle.std.specs.Prelude.{◌≡◌, ℕ, ◌+◌, ◌*◌, ◌%◌, ◌<◌, ◌≤◌, ◌⊎◌}
use Rattle.merge_rule.specs.Merge.{first_share, merge_of}

-- the flows where the senders and their priorities are exchanged, each under its sender's place here
abbrev pub exchanged_merge_of : (s1 s2 r p1 p2 : ℕ) → ℕ × ℕ
exchanged_merge_of s1 s2 r p1 p2 = let flows = merge_of s2 s1 r p2 p1 in (flows.1, flows.0)

-- nothing is rounded: the room divides evenly by the priorities, or a sender has so little that the other isn't held to its share
abbrev pub IsUnrounded : (s1 s2 r p1 p2 : ℕ) → Type 0
IsUnrounded s1 s2 r p1 p2 =
    let share = first_share r p1 p2 in
    (p1 * r % (p1 + p2) ≡ 0) ⊎ ((s1 ≤ share) ⊎ (s2 + share < r))
