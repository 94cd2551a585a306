-- How many bytes and regions a file may have, and how large its amounts are, in parts.
use Rattle.std.specs.Prelude.{ℕ}

-- the most bytes of a file
abbrev pub most_bytes : ℕ
most_bytes = 16_777_216

-- the most regions of a cutting
abbrev pub most_regions : ℕ
most_regions = 512

-- the greatest room of a road: 100,000 vehicles
abbrev pub most_room : ℕ
most_room = 100_000_000_000

-- the greatest capacity of a cell: 100,000 vehicles
abbrev pub most_capacity : ℕ
most_capacity = 100_000_000_000
