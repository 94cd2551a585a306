-- The merge of two senders into one receiver.
use Rattle.std.specs.Prelude.{ℕ, ◌+◌, ◌*◌, ◌/◌, pos, ◌-ℤ◌, unsigned_abs, nat_le, if◌then◌else◌}
use Rattle.fixed_flow.specs.Middle.{middle_of}

-- the first sender's share of the room by the priorities, in whole parts
abbrev pub first_share : (r p1 p2 : ℕ) → ℕ
first_share r p1 p2 = p1 * r / (p1 + p2)

-- what passes of each sender: where there is room for all, all that it has; else the middle one of three, which is never negative:
-- what it has, what the other leaves of the room, and its share of the room
unfoldable pub merge_of : (s1 s2 r p1 p2 : ℕ) → ℕ × ℕ
merge_of s1 s2 r p1 p2 =
    let share = pos (first_share r p1 p2) in
    if nat_le (s1 + s2) r then (s1, s2)
    else (unsigned_abs (middle_of (pos s1) (pos r -ℤ pos s2) share), unsigned_abs (middle_of (pos s2) (pos r -ℤ pos s1) (pos r -ℤ share)))
