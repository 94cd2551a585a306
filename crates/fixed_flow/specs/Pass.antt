-- What one pass over a text makes of its digits. Only this crate's own functions cite it.
use Rattle.std.specs.Prelude.{ℕ, ◌-◌, ◌*◌, ◌^◌, ◌&&◌, nat_lt, nat_le, Option, Some, None, if◌then◌else◌}
use Rattle.fixed_flow.specs.Limits.{parts_per_vehicle}

-- the parts, where all digits have this value, so many stand before the point, and so many behind one
abbrev pub parts_at_end : ℕ → ℕ → Option ℕ → Option ℕ
parts_at_end value digits None = if nat_lt 0 digits && nat_le digits 12 then Some (value * parts_per_vehicle) else None
parts_at_end value digits (Some decimals) =
    if (nat_lt 0 digits && nat_le digits 12) && (nat_lt 0 decimals && nat_le decimals 6) then Some (value * 10 ^ (6 - decimals)) else None
