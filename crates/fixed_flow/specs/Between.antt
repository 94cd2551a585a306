-- What a middle of three values is.
use Rattle.std.specs.Prelude.{◌≡◌, ◌⊎◌, ℤ, ◌≤ℤ◌}
use Rattle.std.specs.Int.{int_min, int_max}

-- m is not beyond both of x and y, on either side
abbrev pub IsBetween : ℤ → ℤ → ℤ → Type 0
IsBetween x y m = (int_min x y ≤ℤ m) × (m ≤ℤ int_max x y)

abbrev pub IsOneOf : ℤ → ℤ → ℤ → ℤ → Type 0
IsOneOf a b c m = (m ≡ a) ⊎ ((m ≡ b) ⊎ (m ≡ c))
