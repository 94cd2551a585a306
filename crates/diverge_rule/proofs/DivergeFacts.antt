-- The rule takes as many whole parts as are allowed, and its flows keep the laws.
use Rattle.std.proofs.Common.{◌≡◌, ℕ, ◌+◌, ◌*◌, ◌/◌, ◌<◌, ◌≤◌, min, arith}
use Rattle.std.proofs.Math.Nat.{div-mul-le_self, mul-le-mul_right}
use Rattle.std.proofs.lemmas.Nat.{div_below, le-div}
use Rattle.diverge_rule.specs.Allowed.{IsAllowed}
use Rattle.diverge_rule.specs.Diverge.{diverge_of}

pub IsAllowed-at_most : (s r1 r2 b1 b2 k : ℕ) → 1 ≤ b1 → 1 ≤ b2 → IsAllowed s r1 r2 b1 b2 k → k ≤ min (min (s / (b1 + b2)) (r1 / b1)) (r2 / b2)
IsAllowed-at_most s r1 r2 b1 b2 k first second allowed =
    omega (arith, le-div k s (b1 + b2) (omega arith) allowed.sent, le-div k r1 b1 (omega arith) allowed.first, le-div k r2 b2 (omega arith) allowed.second)

-- a branch with room for all of these parts doesn't bind, and one without does
pub all_within : (parts room share : ℕ) → 1 ≤ share → parts * share ≤ room → parts ≡ min parts (room / share)
all_within parts room share some fits = omega (arith, le-div parts room share some fits)

pub room_within : (parts room share : ℕ) → 1 ≤ share → room < parts * share → room / share ≡ min parts (room / share)
room_within parts room share some full = omega (arith, div_below room share parts some full)

-- ---- the laws of the flows, for callers that cite the definition

-- what leaves in all is what enters in all
pub diverge_of-conserved : (s r1 r2 b1 b2 : ℕ) → (diverge_of s r1 r2 b1 b2).out ≡ (diverge_of s r1 r2 b1 b2).to1 + (diverge_of s r1 r2 b1 b2).to2
unfolding diverge_of
diverge_of-conserved s r1 r2 b1 b2 = omega arith

within : (k n d : ℕ) → k ≤ n / d → k * d ≤ n
within k n d few = omega (arith, mul-le-mul_right d few, div-mul-le_self n d)

pub diverge_of-sends : (s r1 r2 b1 b2 : ℕ) → (diverge_of s r1 r2 b1 b2).out ≤ s
unfolding diverge_of
diverge_of-sends s r1 r2 b1 b2 = within _ s (b1 + b2) (omega arith)

pub diverge_of-first_receives : (s r1 r2 b1 b2 : ℕ) → (diverge_of s r1 r2 b1 b2).to1 ≤ r1
unfolding diverge_of
diverge_of-first_receives s r1 r2 b1 b2 = within _ r1 b1 (omega arith)

pub diverge_of-second_receives : (s r1 r2 b1 b2 : ℕ) → (diverge_of s r1 r2 b1 b2).to2 ≤ r2
unfolding diverge_of
diverge_of-second_receives s r1 r2 b1 b2 = within _ r2 b2 (omega arith)
