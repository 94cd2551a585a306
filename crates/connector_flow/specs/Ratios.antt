-- A ratio with a factor in place of the division by what doesn't change.
use Rattle.std.specs.Prelude.{◌≡◌, ℕ, ◌+◌, ◌*◌, ◌/◌, ◌^◌, ◌≤◌}
use Rattle.step_plan.specs.Limits.{most_ratio}

-- at most 1, of numbers as two weights make them together
pub record IsRatio (ratio : ℕ × ℕ) : Type 0 where
  pub positive : 1 ≤ ratio.0
  pub most : ratio.0 ≤ ratio.1
  pub small : ratio.1 ≤ 2 * most_ratio

-- the ratio times 2^63, rounded up or one more
abbrev pub factor_of : (ratio : ℕ × ℕ) → ℕ
factor_of ratio = ratio.0 * 2 ^ 63 / ratio.1 + 1

-- this factor stands for it
pub record HasFactor (ratio : ℕ × ℕ) (factor : ℕ) : Type 0 where
  pub within : IsRatio ratio
  pub factor_is : factor_of ratio ≡ factor

-- the part of an amount by a ratio, rounded down
abbrev pub part_of : (ratio : ℕ × ℕ) → (amount : ℕ) → ℕ
part_of ratio amount = amount * ratio.0 / ratio.1
