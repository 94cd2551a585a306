-- The numbers that are drawn from a seed, by a linear congruential generator of 64 bits with the constants of Knuth's MMIX.
use Rattle.std.specs.Prelude.{ℕ, zero, suc, ◌+◌, ◌*◌, ◌/◌, ◌%◌, ◌^◌}

-- the state after so many draws
unfoldable pub state_after : (seed draws : ℕ) → ℕ
state_after seed zero = seed
state_after seed (suc draws) = (6_364_136_223_846_793_005 * state_after seed draws + 1_442_695_040_888_963_407) % 2 ^ 64

-- draw k, from 0 on: the upper 32 bits of the state after it
unfoldable pub draw : (seed k : ℕ) → ℕ
draw seed k = state_after seed (k + 1) / 2 ^ 32
