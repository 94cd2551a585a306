-- The table of the most, entry by entry.
use Rattle.std.proofs.Common.{◌≡◌, ℕ, ◌<◌, ◌≤◌, ◌+◌, ◌*◌, ◌/◌, List, [], ◌∷◌, ◌++◌, length, inl, inr, sym, ap, ◌∙◌, mul-le-mul, arith}
use Rattle.std.proofs.Math.Nat.{div-eq_of_lt-le}
use Rattle.std.proofs.lemmas.Bool.{cases_lt}
use Rattle.std.proofs.lemmas.List.{get_or_append_left, get_or_push, length_push}
use Rattle.cut_grow.specs.Most.{IsTable, most, start_of}
use Rattle.cut_grow.specs.declared.sizes.Sizes.{Sizes}
use Rattle.cut_grow.specs.declared.span.Span.{Span}

-- a number is in one row, at one place of it
same_row : (width a b c d : ℕ) → b < width → d < width → a * width + b ≡ c * width + d → (a ≡ c) × (b ≡ d)
same_row width a b c d first second same =
    let row : (a * width + b) / width ≡ a = div-eq_of_lt-le {k = a} width {m = a * width + b} (omega arith) (omega arith) in
    let other : (c * width + d) / width ≡ c = div-eq_of_lt-le {k = c} width {m = c * width + d} (omega arith) (omega arith) in
    let rows : a ≡ c = sym row ∙ ap (λ n. n / width) same ∙ other in
    let products : a * width ≡ c * width = ap (λ n. n * width) rows in
    (rows, omega (arith, same, products))

pub table-more : (sizes : Sizes) (spans : List Span) (best : List ℕ) (small large entry : ℕ) → IsTable sizes spans best → large ≤ sizes.larges →
    length best ≡ small * (sizes.larges + 1) + large → entry ≡ most spans sizes.floor small large → IsTable sizes spans (best ++ entry ∷ [])
table-more sizes spans best small large entry before in_row long is = record {
  each = λ a b in_rows in_this there. elim (cases_lt (a * (sizes.larges + 1) + b) (length best)) [
    | inl earlier ↦
        get_or_append_left best (entry ∷ []) 0 (a * (sizes.larges + 1) + b) earlier ∙ before.each a b in_rows in_this earlier
    | inr last ↦
        let here : a * (sizes.larges + 1) + b ≡ small * (sizes.larges + 1) + large = omega (arith, there, length_push best entry, long, last) in
        let same = same_row (sizes.larges + 1) a b small large (omega arith) (omega arith) here in
        get_or_push best entry 0 (a * (sizes.larges + 1) + b) (long ∙ sym here) ∙ is ∙
        ap (λ n. most spans sizes.floor n large) (sym same.0) ∙ ap (most spans sizes.floor a) (sym same.1)
  ];
}

-- places within the table, and in the order

pub entry-within : (sizes : Sizes) (small large : ℕ) → small ≤ sizes.smalls → large ≤ sizes.larges →
    small * (sizes.larges + 1) + large < (sizes.smalls + 1) * (sizes.larges + 1)
entry-within sizes small large in_rows in_row =
    let row : small * (sizes.larges + 1) ≤ sizes.smalls * (sizes.larges + 1) = mul-le-mul {n₁ = small} {m₁ = sizes.larges + 1} {n₂ = sizes.smalls} {m₂ = sizes.larges + 1} in_rows (omega arith) in
    omega (arith, row)

pub start-small : (sizes : Sizes) (small large : ℕ) → small < sizes.smalls → large ≤ sizes.larges →
    start_of sizes.floor small large + sizes.floor ≤ start_of sizes.floor sizes.smalls sizes.larges
start-small sizes small large in_rows in_row =
    let first : (small + 1) * sizes.floor ≤ sizes.smalls * sizes.floor = mul-le-mul {n₁ = small + 1} {m₁ = sizes.floor} {n₂ = sizes.smalls} {m₂ = sizes.floor} (omega arith) (omega arith) in
    let second : large * (sizes.floor + 1) ≤ sizes.larges * (sizes.floor + 1) = mul-le-mul {n₁ = large} {m₁ = sizes.floor + 1} {n₂ = sizes.larges} {m₂ = sizes.floor + 1} in_row (omega arith) in
    omega (arith, first, second)

pub start-large : (sizes : Sizes) (small large : ℕ) → small ≤ sizes.smalls → large < sizes.larges →
    start_of sizes.floor small large + (sizes.floor + 1) ≤ start_of sizes.floor sizes.smalls sizes.larges
start-large sizes small large in_rows in_row =
    let first : small * sizes.floor ≤ sizes.smalls * sizes.floor = mul-le-mul {n₁ = small} {m₁ = sizes.floor} {n₂ = sizes.smalls} {m₂ = sizes.floor} in_rows (omega arith) in
    let second : (large + 1) * (sizes.floor + 1) ≤ sizes.larges * (sizes.floor + 1) = mul-le-mul {n₁ = large + 1} {m₁ = sizes.floor + 1} {n₂ = sizes.larges} {m₂ = sizes.floor + 1} (omega arith) (omega arith) in
    omega (arith, first, second)
