-- Sums and differences, lane by lane, where no lane wraps.
use Rattle.std.proofs.Common.{◌≡◌, ℕ, ◌+◌, ◌-◌, ◌^◌, ◌%◌, ◌<◌, ◌≤◌, List, length, slice_index, ap, ◌∙◌, arith}
use Rattle.std.proofs.Math.Nat.{mod-eq_of_lt, mod-eq-sub-mod}
use Rattle.std.proofs.lemmas.Simd.{length-zip2, get_or-zip2}
use lib.Lanes.{zip2}

-- lanes that were added, where the sum fits
abbrev pub added : List ℕ → List ℕ → List ℕ
added xs ys = zip2 (λ a b. (a + b) % 2 ^ 64) xs ys

pub slice_index-added : (xs ys : List ℕ) (k : ℕ) → k < length xs → k < length ys → slice_index xs k + slice_index ys k < 2 ^ 64
    → slice_index (added xs ys) k ≡ slice_index xs k + slice_index ys k
slice_index-added xs ys k x8 y8 fits =
    get_or-zip2 (λ (a b : ℕ). (a + b) % 2 ^ 64) xs ys k 0 0 0 x8 y8 ∙ mod-eq_of_lt fits

-- lanes that were taken off, where there is as much
abbrev pub taken_off : List ℕ → List ℕ → List ℕ
taken_off xs ys = zip2 (λ a b. (a + (2 ^ 64 - b)) % 2 ^ 64) xs ys

sub_wraps : (a b m : ℕ) → b ≤ a → b < m → a - b < m → (a + (m - b)) % m ≡ a - b
sub_wraps a b m le small lt =
    let past : m ≤ a + (m - b) = omega arith in
    let e : a + (m - b) - m ≡ a - b = omega arith in
    mod-eq-sub-mod past ∙ ap (λ x. x % m) e ∙ mod-eq_of_lt lt

pub slice_index-taken_off : (xs ys : List ℕ) (k : ℕ) → k < length xs → k < length ys → slice_index ys k ≤ slice_index xs k → slice_index ys k < 2 ^ 64
    → slice_index xs k - slice_index ys k < 2 ^ 64
    → slice_index (taken_off xs ys) k ≡ slice_index xs k - slice_index ys k
slice_index-taken_off xs ys k x8 y8 le small fits =
    get_or-zip2 (λ (a b : ℕ). (a + (2 ^ 64 - b)) % 2 ^ 64) xs ys k 0 0 0 x8 y8 ∙ sub_wraps (slice_index xs k) (slice_index ys k) (2 ^ 64) le small fits

pub length-added : (xs ys : List ℕ) → length xs ≡ 8 → length ys ≡ 8 → length (added xs ys) ≡ 8
length-added xs ys x8 y8 = length-zip2 (λ (a b : ℕ). (a + b) % 2 ^ 64) xs ys (omega arith) ∙ x8

pub length-taken_off : (xs ys : List ℕ) → length xs ≡ 8 → length ys ≡ 8 → length (taken_off xs ys) ≡ 8
length-taken_off xs ys x8 y8 = length-zip2 (λ (a b : ℕ). (a + (2 ^ 64 - b)) % 2 ^ 64) xs ys (omega arith) ∙ x8
