-- Which texts spell a number.
use Rattle.std.specs.Prelude.{ℕ, ◌^◌, ◌&&◌, List, bytes_eq, decimal, nat_lt, Option, Some, None, if◌then◌else◌}
use Rattle.std.specs.Str.Parse.{digits_value}

-- the number below 2^64 that is printed so
unfoldable pub number_of : List ℕ → Option ℕ
number_of text =
    let value = digits_value 10 text in
    if nat_lt value (2 ^ 64) && bytes_eq (decimal value) text then Some value else None
