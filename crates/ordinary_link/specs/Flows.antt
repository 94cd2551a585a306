-- What a cell can send and receive in a step.
use Rattle.std.specs.Prelude.{ℕ, ◌-◌, ◌*◌, ◌/◌, Bool, if◌then◌else◌, min, Option, Some, None}
use Rattle.ordinary_link.specs.declared.space.Room.{Room}

-- S: what a cell that holds `n` parts under the capacity `q` can send
abbrev pub sending_flow : (n q : ℕ) → Bool → ℕ
sending_flow n q green = if green then min q n else 0

-- R: what such a cell can receive: of a road at most what its empty space lets in, floor(A·(N - n)/B)
abbrev pub receiving_flow : (n q : ℕ) → Option Room → ℕ
receiving_flow n q None = q
receiving_flow n q (Some room) = min q (room.num * (room.most - n) / room.den)
