-- One move by a link, as plain numbers: by u at most what has gone out of a cell in one network passes what has in the other.
use Rattle.std.proofs.Common.{◌≡◌, inl, inr, ℕ, Bool, true, false, min, ◌+◌, ◌-◌, ◌*◌, ◌/◌, ◌≤◌, ap, arith, refl}
use Rattle.std.proofs.Math.Nat.{div-mul-le_self, le_of_mul-le-mul_right, mul_comm, mul-le-mul_left, mul-le-mul_right}
use Rattle.std.proofs.lemmas.Bool.{cases_lt}
use Rattle.std.proofs.lemmas.Nat.{le-div}
use Rattle.ordinary_link.specs.Flows.{sending_flow}
use Rattle.step_plan.specs.Speeds.{arriving}
use Rattle.step_plan.specs.SpeedBounds.{IsSpeed}

times_sum : (a y d : ℕ) → a * (y + d) ≡ a * y + a * d
times_sum a y d = grind arith

floors : (a b x y d : ℕ) → 1 ≤ b → a ≤ b → x ≤ y + d → a * x / b ≤ a * y / b + d
floors a b x y d some ratio less =
    let q : ℕ = a * x / b in
    elim (cases_lt q d) [
      | inl few ↦ omega arith
      | inr many ↦
          let over : d + (q - d) ≡ q = omega arith in
          let first : q * b ≤ a * x = div-mul-le_self (a * x) b in
          let second : a * x ≤ a * (y + d) = mul-le-mul_left a less in
          let third : a * d ≤ b * d = mul-le-mul_right d ratio in
          let parts : (d + (q - d)) * b ≡ b * d + (q - d) * b = sums_times d (q - d) b in
          let whole : (d + (q - d)) * b ≡ q * b = ap (λ k. k * b) over in
          let rest : (q - d) * b ≤ a * y = omega (arith, times_sum a y d) in
          let last : q - d ≤ a * y / b = le-div (q - d) (a * y) b some rest in
          omega arith
    ]
  where
    sums_times : (d e b : ℕ) → (d + e) * b ≡ b * d + e * b
    sums_times d e b = grind arith

-- of so much more empty space at most as much more can be received
pub space_on : (a b x y g h : ℕ) → 1 ≤ b → a ≤ b → x + g ≤ y + h → g ≤ h → g + a * x / b ≤ h + a * y / b
space_on a b x y g h some ratio space less =
    let more : a * x / b ≤ a * y / b + (h - g) = floors a b x y (h - g) some ratio (omega arith) in
    omega arith

-- at no lower a ratio of as much empty space no less can be received
pub ratio_on : (a b c d y : ℕ) → 1 ≤ b → 1 ≤ d → a * d ≤ c * b → a * y / b ≤ c * y / d
ratio_on a b c d y some too ratio =
    let q : ℕ = a * y / b in
    let first : q * b ≤ a * y = div-mul-le_self (a * y) b in
    let second : q * b * d ≤ a * y * d = mul-le-mul_right d first in
    let third : a * d * y ≤ c * b * y = mul-le-mul_right y ratio in
    let whole : q * d * b ≤ c * y * b = grind (arith, second, third, swap q b d, swap a y d, swap c b y) in
    le-div q (c * y) d too (le_of_mul-le-mul_right {k = b} whole some)
  where
    swap : (m n k : ℕ) → m * n * k ≡ m * k * n
    swap m n k = grind arith

-- at a speed no lower, of as much that has come in, no less has gone out and reaches the end
pub speed_on : (slow fast : ℕ × ℕ) (x y g h : ℕ) → IsSpeed slow → IsSpeed fast → slow.0 * fast.1 ≤ fast.0 * slow.1 → x + g ≤ y + h → g ≤ h →
    arriving slow x + g ≤ arriving fast y + h
speed_on slow fast x y g h fits fits_too faster all less =
    let some : 1 ≤ slow.1 = omega (arith, fits.positive, fits.ratio) in
    let too : 1 ≤ fast.1 = omega (arith, fits_too.positive, fits_too.ratio) in
    let first : x * slow.0 ≡ slow.0 * x = mul_comm x slow.0 in
    let second : y * fast.0 ≡ fast.0 * y = mul_comm y fast.0 in
    rw (first, second) (omega (arith, space_on slow.0 slow.1 x y g h some fits.ratio all less, ratio_on slow.0 slow.1 fast.0 fast.1 y some too faster))

-- what a cell sends, and what it has sent, where the one that it sends to can receive r
pub sends_on : (g h n m q p r s u : ℕ) (green shown : Bool) → g ≤ h + u → n + g ≤ m + h + u → q ≤ p → (green ≡ true → shown ≡ true) →
    g + r ≤ h + s + u → g + min (sending_flow n q green) r ≤ h + min (sending_flow m p shown) s + u
sends_on g h n m q p r s u false shown gone all capacity light receives = omega arith
sends_on g h n m q p r s u true true gone all capacity light receives = omega arith
sends_on g h n m q p r s u true false gone all capacity light receives = let dark = light refl in cc
