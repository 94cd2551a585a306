-- Which texts are names of cells.
use Rattle.std.specs.Prelude.{ℕ, ◌==◌, ◌||◌, ◌&&◌, Bool, List, length, nat_le}
use Rattle.std.specs.Char.{is_ascii_alphanumeric}
use Rattle.std.specs.List.{list_all}

-- an ASCII letter, an ASCII digit, `_`, `-` or `.`
abbrev pub allowed_in_name : ℕ → Bool
allowed_in_name b = is_ascii_alphanumeric b || (b == 95) || (b == 45) || (b == 46)

-- 1 to 32 bytes that are allowed in a name
unfoldable pub is_name : List ℕ → Bool
is_name text = nat_le 1 (length text) && nat_le (length text) 32 && list_all allowed_in_name text
