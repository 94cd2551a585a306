-- Which texts spell a whole number and which an amount, and their values.
use Rattle.std.specs.Prelude.{ℕ, ◌+◌, ◌-◌, ◌*◌, ◌^◌, Bool, not, ◌&&◌, ◌||◌, List, length, ◌==◌, nat_lt, nat_le, Option, Some, None, if◌then◌else◌}
use Rattle.std.specs.Char.{is_ascii_digit}
use Rattle.std.specs.List.{list_all, list_any, before_first, after_first}
use Rattle.std.specs.Str.Parse.{digits_value}
use Rattle.fixed_flow.specs.Limits.{parts_per_vehicle}

-- 1 to `most` ASCII digits
abbrev pub is_digits : ℕ → List ℕ → Bool
is_digits most text = nat_lt 0 (length text) && nat_le (length text) most && list_all is_ascii_digit text

-- the value of 1 to 9 digits
unfoldable pub whole_of : List ℕ → Option ℕ
whole_of text = if is_digits 9 text then Some (digits_value 10 text) else None

abbrev pub is_point : ℕ → Bool
is_point byte = byte == 46

-- the parts that a text spells, whatever their number: 1 to 12 digits, or these and behind a point 1 to 6 decimals, of which
-- those that are missing are zeros
unfoldable pub amount_of : List ℕ → Option ℕ
amount_of text =
    let whole = before_first is_point text in
    let decimals = after_first is_point text in
    if is_digits 12 whole && (not (list_any is_point text) || is_digits 6 decimals)
    then Some (digits_value 10 whole * parts_per_vehicle + digits_value 10 decimals * 10 ^ (6 - length decimals)) else None
