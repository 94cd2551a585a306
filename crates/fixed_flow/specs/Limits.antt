-- How amounts are counted, the greatest one, and the greatest number of a ratio.
use Rattle.std.specs.Prelude.{ℕ}

-- the parts of one vehicle
abbrev pub parts_per_vehicle : ℕ
parts_per_vehicle = 1_000_000

-- the most parts of an amount: 10,000,000 vehicles
abbrev pub most_parts : ℕ
most_parts = 10_000_000_000_000

-- the greatest priority, turning share, and numerator and denominator of a ratio
abbrev pub most_ratio : ℕ
most_ratio = 1_000
