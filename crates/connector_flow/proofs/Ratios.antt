-- A part as the high word of a product.
use Rattle.std.proofs.Common.{◌≡◌, ℕ, ◌+◌, ◌*◌, ◌/◌, ◌%◌, ◌^◌, ◌<◌, ◌≤◌, refl, sym, ap, ◌∙◌, arith}
use Rattle.std.proofs.Math.Nat.{div-div-eq-div-mul, div-eq_of_lt-le, div-le_of_le-mul, le_of_mul-le-mul_left, lt_of_mul-lt-mul_left, mul-div_cancel_left, mul_comm, mul-le-mul_left, mul-le-mul_right}
use Rattle.std.proofs.lemmas.Nat.{div-add-mod'}
use Rattle.merge_rule.specs.Merge.{first_share}
use Rattle.connector_flow.specs.Ratios.{IsRatio, factor_of, part_of}

-- `g` and `q` are the quotients, `r` and `s` what they leave
low : (num den d w g r q s : ℕ) → g * den + r ≡ num * w → r < den → q * den + s ≡ num * d → den * (q * w) ≤ den * (d * (g + 1))
low num den d w g r q s whole rest part =
    let h1 : (g * den + r) * d ≡ (num * w) * d = ap (λ x. x * d) whole in
    let h2 : (q * den + s) * w ≡ (num * d) * w = ap (λ x. x * w) part in
    let h3 : d * r ≤ d * den = mul-le-mul_left d (omega arith) in
    grind arith

high : (num den d w g r q s : ℕ) → g * den + r ≡ num * w → q * den + s ≡ num * d → s < den → den * d < w →
    den * (d * (g + 1)) < den * ((q + 1) * w)
high num den d w g r q s whole part left small =
    let h1 : (g * den + r) * d ≡ (num * w) * d = ap (λ x. x * d) whole in
    let h2 : (q * den + s) * w ≡ (num * d) * w = ap (λ x. x * w) part in
    let h3 : (s + 1) * w ≤ den * w = mul-le-mul_right w (omega arith) in
    grind arith

-- with `m = floor(A * w / B) + 1`, `floor(d * m / w)` is `floor(A * d / B)`
factor-exact : (num den d w : ℕ) → 1 ≤ den → den * d < w → d * (num * w / den + 1) / w ≡ num * d / den
factor-exact num den d w positive small =
    let g : ℕ = num * w / den in
    let q : ℕ = num * d / den in
    let whole : g * den + num * w % den ≡ num * w = div-add-mod' (num * w) den in
    let part : q * den + num * d % den ≡ num * d = div-add-mod' (num * d) den in
    let rest : num * w % den < den = omega arith in
    let left : num * d % den < den = omega arith in
    div-eq_of_lt-le w
    (le_of_mul-le-mul_left (low num den d w g (num * w % den) q (num * d % den) whole rest part) positive)
    (lt_of_mul-lt-mul_left den (high num den d w g (num * w % den) q (num * d % den) whole part left small))

-- the high word of a product of 64 bits each, of twice the amount
pub part-exact : (num den d : ℕ) → 1 ≤ den → den * d < 2 ^ 63 → 2 * (d * factor_of (num, den)) / 2 ^ 64 ≡ num * d / den
part-exact num den d positive small =
    let product : ℕ = d * factor_of (num, den) in
    let halved : 2 * product / 2 / 2 ^ 63 ≡ 2 * product / 2 ^ 64 = div-div-eq-div-mul (2 * product) 2 (2 ^ 63) in
    sym halved ∙ ap (λ x. x / 2 ^ 63) (mul-div_cancel_left product (omega arith)) ∙ factor-exact num den d (2 ^ 63) positive small

-- a part is no more than the whole
pub part_of-le : (ratio : ℕ × ℕ) (n : ℕ) → IsRatio ratio → part_of ratio n ≤ n
part_of-le ratio n within = div-le_of_le-mul ratio.1 (omega (arith, mul_comm n ratio.1, mul-le-mul_left n within.most))

-- by the ratio of one to two weights together

pub part-whole : (first second amount : ℕ) (share : ℕ × ℕ) → (1, first + second) ≡ share → part_of share amount ≡ amount / (first + second)
part-whole first second amount share is =
    ap (λ one. part_of one amount) (sym is) ∙ ap (λ x. x / (first + second)) (let h : amount * 1 ≡ amount = omega arith in h)

pub part-first_share : (first second amount : ℕ) (share : ℕ × ℕ) → (1, first + second) ≡ share → part_of share (amount * first) ≡ first_share amount first second
part-first_share first second amount share is =
    part-whole first second (amount * first) share is ∙ ap (λ x. x / (first + second)) (mul_comm amount first)

pub first_share-le : (first second amount : ℕ) → first_share amount first second ≤ amount
first_share-le first second amount = div-le_of_le-mul (first + second) (mul-le-mul_right amount (omega arith))
