-- Sums of flights fit 128 bits.
use Rattle.std.proofs.Common.{◌≡◌, ℕ, ℤ, pos, neg_ℤ, ◌+◌, ◌*◌, ◌<◌, ◌^◌, ◌+ℤ◌, ◌≤ℤ◌, to_z, of_z, arith}
use Rattle.std.specs.Int.{w128}
use Rattle.std.proofs.lemmas.Int.{ints}

-- a sum of k flights lies between these two
pub record IsSumOf (k : ℕ) (sum : ℤ) : Type 0 where
  pub least : neg_ℤ (pos (k * 2 ^ 65)) ≤ℤ sum
  pub most : sum ≤ℤ pos (k * 2 ^ 65)

pub one_flight_more : (k : ℕ) (sum flight : ℤ) → k < 2 ^ 32 → IsSumOf k sum → neg_ℤ (pos (2 ^ 65)) ≤ℤ flight → flight ≤ℤ pos (2 ^ 65) →
    IsSumOf (k + 1) (sum +ℤ flight)
one_flight_more k sum flight few within least most = record { least = omega (arith, ints); most = omega (arith, ints) }

pub stored_sum : (k : ℕ) (sum flight : ℤ) → k < 2 ^ 32 → IsSumOf k sum → neg_ℤ (pos (2 ^ 65)) ≤ℤ flight → flight ≤ℤ pos (2 ^ 65) →
    to_z w128 (of_z w128 (sum +ℤ to_z w128 (of_z w128 flight))) ≡ sum +ℤ flight
stored_sum k sum flight few within least most = omega (arith, ints)
