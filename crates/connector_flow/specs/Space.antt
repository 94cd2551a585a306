-- The space of a cell, and the room that it stands for.
use Rattle.std.specs.Prelude.{◌≡◌, ℕ, ◌+◌, ◌-◌, ◌*◌, ◌/◌, ◌^◌, ◌≤◌, Option, Some, None}
use Rattle.ordinary_link.specs.declared.space.Room.{Room}
use Rattle.connector_flow.specs.declared.space.Space.{Space}

-- what a cell without a room may hold in all, 2^62 parts
abbrev pub boundless : ℕ
boundless = 4_611_686_018_427_387_904

-- what the empty space of a cell that holds `n` parts lets in: the high word of a product of 64 bits each
abbrev pub let_in : Space → (n : ℕ) → ℕ
let_in space n = (space.storage - n) * space.factor / 2 ^ 64

-- it lets in what a cell with this room does, floor(A·(N - n)/B), and without a room all that comes
abbrev pub IsSpaceOf : Space → Option Room → Type 0
IsSpaceOf space (Some room) = (n : ℕ) → n ≤ room.most → (n ≤ space.storage) × (let_in space n ≡ room.num * (room.most - n) / room.den)
IsSpaceOf space None = (n q : ℕ) → n + q ≤ boundless → (n ≤ space.storage) × (q ≤ let_in space n)

-- a cell with this room can hold `n` parts, and without a room `n` parts and a step's capacity
abbrev pub HasSpace : (n q : ℕ) → Option Room → Type 0
HasSpace n q (Some room) = n ≤ room.most
HasSpace n q None = n + q ≤ boundless
