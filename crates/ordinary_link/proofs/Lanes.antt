-- What the lanes of a vector hold after a load, and after a choice by a comparison.
use Rattle.std.proofs.Common.{◌≡◌, ℕ, ◌+◌, ◌-◌, ◌^◌, ◌<◌, ◌≤◌, Bool, false, cond, List, length, slice_index, ap, ◌∙◌, arith, w64}
use Rattle.std.proofs.lemmas.Simd.{tops_compared, length-zip2, length-sel_l, get_or-sel_l, get_or-zip2, length-chunk, get_or-chunk}
use lib.Lanes.{zip2, sel_l, top, chunk}
use mathlib.Core.List.{map}
use mir.Val.{bits, hbits}

-- a load
abbrev pub loaded : ℕ → List ℕ → List ℕ
loaded at xs = chunk at 8 xs

pub length-loaded : (at : ℕ) (xs : List ℕ) → at + 8 ≤ length xs → length (loaded at xs) ≡ 8
length-loaded at xs room = length-chunk at 8 xs room

pub slice_index-loaded : (at : ℕ) (xs : List ℕ) (k : ℕ) → k < 8 → slice_index (loaded at xs) k ≡ slice_index xs (at + k)
slice_index-loaded at xs k lt = get_or-chunk at 8 xs k 0 lt

-- the mask of a comparison of two vectors
abbrev pub compared : (ℕ → ℕ → Bool) → List ℕ → List ℕ → List Bool
compared test xs ys = map (top (hbits w64)) (zip2 (λ a b. cond (test a b) (2 ^ bits w64 - 1) 0) xs ys)

pub length-chosen : (test : ℕ → ℕ → Bool) (xs ys us vs : List ℕ) → length xs ≡ 8 → length ys ≡ 8 → length us ≡ 8 → length vs ≡ 8
    → length (sel_l (compared test xs ys) us vs) ≡ 8
length-chosen test xs ys us vs xs8 ys8 us8 vs8 =
    let long : length (zip2 test xs ys) ≡ 8 = length-zip2 test xs ys (omega arith) ∙ xs8 in
    ap (λ ms. length (sel_l ms us vs)) (tops_compared w64 test xs ys) ∙ length-sel_l (zip2 test xs ys) us vs (omega arith) (omega arith) ∙ long

-- a lane of one vector where the comparison holds, else of another
pub slice_index-chosen : (test : ℕ → ℕ → Bool) (xs ys us vs : List ℕ) (k : ℕ) → length xs ≡ 8 → length ys ≡ 8 → length us ≡ 8 → length vs ≡ 8 → k < 8
    → slice_index (sel_l (compared test xs ys) us vs) k ≡ cond (test (slice_index xs k) (slice_index ys k)) (slice_index us k) (slice_index vs k)
slice_index-chosen test xs ys us vs k xs8 ys8 us8 vs8 lt =
    let long : length (zip2 test xs ys) ≡ 8 = length-zip2 test xs ys (omega arith) ∙ xs8 in
    ap (λ ms. slice_index (sel_l ms us vs) k) (tops_compared w64 test xs ys)
    ∙ get_or-sel_l (zip2 test xs ys) us vs k 0 (omega arith) (omega arith) (omega arith)
    ∙ ap (λ t. cond t (slice_index us k) (slice_index vs k)) (get_or-zip2 test xs ys k 0 0 false (omega arith) (omega arith))
