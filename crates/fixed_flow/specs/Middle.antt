-- The middle of three values.
use Rattle.std.specs.Prelude.{ℤ}
use Rattle.std.specs.Int.{int_min, int_max}

unfoldable pub middle_of : ℤ → ℤ → ℤ → ℤ
middle_of a b c = int_max (int_min a b) (int_min (int_max a b) c)
