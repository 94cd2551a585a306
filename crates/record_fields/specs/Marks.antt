-- A set of numbers, as one mark for each number up to the greatest.
use Rattle.std.specs.Prelude.{ℕ, Bool, false, List, get_or}

abbrev pub is_marked : List Bool → ℕ → Bool
is_marked marks i = get_or marks i false
