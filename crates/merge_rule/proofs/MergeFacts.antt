-- The merge in whole numbers, and its laws.
use Rattle.std.proofs.Common.{◌≡◌, ℕ, zero, suc, ◌+◌, ◌-◌, ◌*◌, ◌/◌, ◌%◌, ◌<◌, ◌≤◌, ◌⊎◌, ◌↔◌, min, max, pos, ◌-ℤ◌, nat_le, true, false, refl, sym, ap, ◌∙◌, inl, inr, arith, add_comm}
use Rattle.std.proofs.lemmas.Bool.{cases_lt}
use Rattle.std.proofs.lemmas.Bool.Decides.{nat_tests}
use Rattle.std.proofs.lemmas.Int.{ints, clamps}
use Rattle.std.proofs.lemmas.Nat.{div_below, div-mul-add, mod-mul-add, div-add-mod', mod_below}
use Rattle.fixed_flow.specs.Middle.{middle_of}
use Rattle.merge_rule.specs.Merge.{first_share, merge_of}
use Rattle.merge_rule.specs.Exchange.{exchanged_merge_of, IsUnrounded}

pub first_share-le : (r p1 p2 : ℕ) → 1 ≤ p1 + p2 → first_share r p1 p2 ≤ r
first_share-le r p1 p2 some =
    let below : p1 * r < (r + 1) * (p1 + p2) = omega arith in
    let e = div_below (p1 * r) (p1 + p2) (r + 1) some below in
    omega arith

-- ---- what each sends, in whole numbers

-- where there is no room for all: its share, or what it has if that is less, or what the other leaves if that is more
middle_of-capped : (s other r share : ℕ) → r < s + other → middle_of (pos s) (pos r -ℤ pos other) (pos share) ≡ pos (max (r - other) (min s share))
unfolding middle_of
middle_of-capped s other r share short = omega (arith, ints, clamps)

pub merge_of-room : (s1 s2 r p1 p2 : ℕ) → s1 + s2 ≤ r → merge_of s1 s2 r p1 p2 ≡ (s1, s2)
unfolding merge_of
merge_of-room s1 s2 r p1 p2 room = let fits : nat_le (s1 + s2) r ≡ true = grind (arith, nat_tests) in rw fits refl

merge_of-short : (s1 s2 r p1 p2 : ℕ) → 1 ≤ p1 + p2 → r < s1 + s2 → let share = first_share r p1 p2 in
    merge_of s1 s2 r p1 p2 ≡ (max (r - s2) (min s1 share), max (r - s1) (min s2 (r - share)))
unfolding merge_of
merge_of-short s1 s2 r p1 p2 some short =
    let within = first_share-le r p1 p2 some in
    let full : nat_le (s1 + s2) r ≡ false = grind (arith, nat_tests) in
    let rest : pos r -ℤ pos (first_share r p1 p2) ≡ pos (r - first_share r p1 p2) = omega (arith, ints) in
    rw (full, rest, middle_of-capped s1 s2 r (first_share r p1 p2) short, middle_of-capped s2 s1 r (r - first_share r p1 p2) (omega arith)) refl

-- all that each has goes, or what is left by both limits
merge_of-cases : (s1 s2 r p1 p2 : ℕ) → 1 ≤ p1 + p2 → let flows = merge_of s1 s2 r p1 p2 in let share = first_share r p1 p2 in
    ((s1 + s2 ≤ r) × (flows.0 ≡ s1) × (flows.1 ≡ s2))
    ⊎ ((r < s1 + s2) × (flows.0 ≡ max (r - s2) (min s1 share)) × (flows.1 ≡ max (r - s1) (min s2 (r - share))))
merge_of-cases s1 s2 r p1 p2 some = elim (cases_lt r (s1 + s2)) [
  | inl short ↦ let flows = merge_of-short s1 s2 r p1 p2 some short in inr (short, ap (λ (f : ℕ × ℕ). f.0) flows, ap (λ (f : ℕ × ℕ). f.1) flows)
  | inr room ↦ let flows = merge_of-room s1 s2 r p1 p2 room in inl (room, ap (λ (f : ℕ × ℕ). f.0) flows, ap (λ (f : ℕ × ℕ). f.1) flows)
]

-- ---- the laws of the flows

pub merge_of-first_rule : (s1 s2 r p1 p2 : ℕ) → 1 ≤ p1 + p2 → r < s1 + s2
    → pos (merge_of s1 s2 r p1 p2).0 ≡ middle_of (pos s1) (pos r -ℤ pos s2) (pos (first_share r p1 p2))
merge_of-first_rule s1 s2 r p1 p2 some short =
    rw (merge_of-short s1 s2 r p1 p2 some short, middle_of-capped s1 s2 r (first_share r p1 p2) short) refl

pub merge_of-second_rule : (s1 s2 r p1 p2 : ℕ) → 1 ≤ p1 + p2 → r < s1 + s2
    → pos (merge_of s1 s2 r p1 p2).1 ≡ middle_of (pos s2) (pos r -ℤ pos s1) (pos r -ℤ pos (first_share r p1 p2))
merge_of-second_rule s1 s2 r p1 p2 some short =
    let within = first_share-le r p1 p2 some in
    let rest : pos r -ℤ pos (first_share r p1 p2) ≡ pos (r - first_share r p1 p2) = omega (arith, ints) in
    rw (merge_of-short s1 s2 r p1 p2 some short, rest, middle_of-capped s2 s1 r (r - first_share r p1 p2) (omega arith)) refl

pub merge_of-first_sends : (s1 s2 r p1 p2 : ℕ) → 1 ≤ p1 + p2 → (merge_of s1 s2 r p1 p2).0 ≤ s1
merge_of-first_sends s1 s2 r p1 p2 some = elim (merge_of-cases s1 s2 r p1 p2 some) [ inl room ↦ omega arith | inr short ↦ omega arith ]

pub merge_of-second_sends : (s1 s2 r p1 p2 : ℕ) → 1 ≤ p1 + p2 → (merge_of s1 s2 r p1 p2).1 ≤ s2
merge_of-second_sends s1 s2 r p1 p2 some = elim (merge_of-cases s1 s2 r p1 p2 some) [ inl room ↦ omega arith | inr short ↦ omega arith ]

pub merge_of-receives : (s1 s2 r p1 p2 : ℕ) → 1 ≤ p1 + p2 → (merge_of s1 s2 r p1 p2).0 + (merge_of s1 s2 r p1 p2).1 ≤ r
merge_of-receives s1 s2 r p1 p2 some =
    let within = first_share-le r p1 p2 some in
    elim (merge_of-cases s1 s2 r p1 p2 some) [ inl room ↦ omega arith | inr short ↦ omega arith ]

pub merge_of-none_is_lost : (s1 s2 r p1 p2 : ℕ) → 1 ≤ p1 + p2 → r < s1 + s2 → (merge_of s1 s2 r p1 p2).0 + (merge_of s1 s2 r p1 p2).1 ≡ r
merge_of-none_is_lost s1 s2 r p1 p2 some full =
    let within = first_share-le r p1 p2 some in
    elim (merge_of-cases s1 s2 r p1 p2 some) [ inl room ↦ absurd (omega arith) | inr short ↦ omega arith ]

same_pair : (x y : ℕ × ℕ) → x.0 ≡ y.0 → x.1 ≡ y.1 → x ≡ y
same_pair x y first second = λ i. (first i, second i)

-- both flows in one form, whether there is room for all or not
pub in_one_form : {first second : ℕ} (s1 s2 r p1 p2 : ℕ) → 1 ≤ p1 + p2
    → first ≡ min s1 (max (first_share r p1 p2) (r - s2)) → second ≡ min s2 (r - first) → (first, second) ≡ merge_of s1 s2 r p1 p2
in_one_form {first} {second} s1 s2 r p1 p2 some is_first is_second =
    let within = first_share-le r p1 p2 some in
    same_pair (first, second) (merge_of s1 s2 r p1 p2)
    (elim (merge_of-cases s1 s2 r p1 p2 some) [ inl room ↦ omega arith | inr short ↦ omega arith ])
    (elim (merge_of-cases s1 s2 r p1 p2 some) [ inl room ↦ omega arith | inr short ↦ omega arith ])

-- ---- the senders exchanged

-- where the second's share is q parts and k remain, the first's share is k, or one less where m is left over
even : (k q p1 p2 : ℕ) → q * (p1 + p2) ≡ p2 * (k + q) → p1 * (k + q) ≡ k * (p1 + p2) + 0
even k q p1 p2 second = omega arith

uneven : (k q m p1 p2 : ℕ) → q * (p1 + p2) + m ≡ p2 * (suc k + q) → m < p1 + p2 → p1 * (suc k + q) ≡ k * (p1 + p2) + (p1 + p2 - m)
uneven k q m p1 p2 second left = omega arith

none_left : (q m p1 p2 : ℕ) → q * (p1 + p2) + m ≡ p2 * (0 + q) → m ≡ 0
none_left q m p1 p2 second = omega arith

is_share : (d n quotient left : ℕ) → left < d → n ≡ quotient * d + left → (n / d ≡ quotient) × (n % d ≡ left)
is_share d n quotient left small e = rw e (div-mul-add quotient d left small, mod-mul-add quotient d left small)

first_share_from : (r p1 p2 k q m : ℕ) → 1 ≤ p1 + p2 → q * (p1 + p2) + m ≡ p2 * r → m < p1 + p2 → k + q ≡ r → first_share r p2 p1 ≡ q
    → ((p1 * r % (p1 + p2) ≡ 0) × (first_share r p1 p2 + first_share r p2 p1 ≡ r))
    ⊎ ((0 < p1 * r % (p1 + p2)) × (first_share r p1 p2 + first_share r p2 p1 + 1 ≡ r))
first_share_from r p1 p2 zero q m some e small total second =
    let of_all = rw (← total) at e in
    let none = none_left q m p1 p2 of_all in
    let first = is_share (p1 + p2) (p1 * r) 0 0 some (rw (← total) (even 0 q p1 p2 (omega arith))) in
    inl (first.1, omega arith)
first_share_from r p1 p2 (suc k) q m some e small total second =
    elim (cases_lt 0 m) [
      | inl left ↦
          let first = is_share (p1 + p2) (p1 * r) k (p1 + p2 - m) (omega arith) (rw (← total) (uneven k q m p1 p2 (rw (← total) at e) small)) in
          inr (omega arith, omega arith)
      | inr none ↦
          let of_all = rw (← total) at e in
          let first = is_share (p1 + p2) (p1 * r) (suc k) 0 some (rw (← total) (even (suc k) q p1 p2 (omega arith))) in
          inl (first.1, omega arith)
    ]

-- the two shares of the room, each rounded down, leave one part where they are uneven
pub shares : (r p1 p2 : ℕ) → 1 ≤ p1 + p2
    → ((p1 * r % (p1 + p2) ≡ 0) × (first_share r p1 p2 + first_share r p2 p1 ≡ r))
    ⊎ ((0 < p1 * r % (p1 + p2)) × (first_share r p1 p2 + first_share r p2 p1 + 1 ≡ r))
shares r p1 p2 some =
    let d = p1 + p2 in
    let q = p2 * r / d in
    let m = p2 * r % d in
    let second : first_share r p2 p1 ≡ q = ap (λ n. p2 * r / n) (add_comm p2 p1) in
    let within = first_share-le r p2 p1 (omega arith) in
    let small : m < d = mod_below (p2 * r) d some in
    first_share_from r p1 p2 (r - q) q m some (div-add-mod' (p2 * r) d) small (omega arith) second

shares_near : (r p1 p2 : ℕ) → 1 ≤ p1 + p2 → (first_share r p1 p2 + first_share r p2 p1 ≤ r) × (r ≤ first_share r p1 p2 + first_share r p2 p1 + 1)
shares_near r p1 p2 some = elim (shares r p1 p2 some) [ inl whole ↦ (omega arith, omega arith) | inr part ↦ (omega arith, omega arith) ]

-- both merges, each in whole numbers
both : (s1 s2 r p1 p2 : ℕ) → 1 ≤ p1 + p2 → let flows = merge_of s1 s2 r p1 p2 in
    let other = exchanged_merge_of s1 s2 r p1 p2 in
    let share = first_share r p1 p2 in
    let rest = first_share r p2 p1 in
    ((s1 + s2 ≤ r) × (flows.0 ≡ s1) × (flows.1 ≡ s2) × (other.0 ≡ s1) × (other.1 ≡ s2))
    ⊎ ((r < s1 + s2) × (flows.0 ≡ max (r - s2) (min s1 share)) × (flows.1 ≡ max (r - s1) (min s2 (r - share)))
    × (other.0 ≡ max (r - s2) (min s1 (r - rest))) × (other.1 ≡ max (r - s1) (min s2 rest)))
both s1 s2 r p1 p2 some =
    let exchanged = merge_of-cases s2 s1 r p2 p1 (omega arith) in
    elim (merge_of-cases s1 s2 r p1 p2 some) [
      | inl room ↦ elim exchanged [ inl back ↦ inl (room.0, room.1, room.2, back.2, back.1) | inr back ↦ absurd (omega arith) ]
      | inr short ↦ elim exchanged [ inl back ↦ absurd (omega arith) | inr back ↦ inr (short.0, short.1, short.2, back.2, back.1) ]
    ]

pub exchanged_first : (s1 s2 r p1 p2 : ℕ) → 1 ≤ p1 + p2 → let flows = merge_of s1 s2 r p1 p2 in
    let other = exchanged_merge_of s1 s2 r p1 p2 in (flows.0 ≤ other.0) × (other.0 ≤ flows.0 + 1)
exchanged_first s1 s2 r p1 p2 some =
    let near = shares_near r p1 p2 some in
    elim (both s1 s2 r p1 p2 some) [ inl room ↦ (omega arith, omega arith) | inr short ↦ (omega arith, omega arith) ]

pub exchanged_second : (s1 s2 r p1 p2 : ℕ) → 1 ≤ p1 + p2 → let flows = merge_of s1 s2 r p1 p2 in
    let other = exchanged_merge_of s1 s2 r p1 p2 in (other.1 ≤ flows.1) × (flows.1 ≤ other.1 + 1)
exchanged_second s1 s2 r p1 p2 some =
    let near = shares_near r p1 p2 some in
    elim (both s1 s2 r p1 p2 some) [ inl room ↦ (omega arith, omega arith) | inr short ↦ (omega arith, omega arith) ]

unrounded_from_same : (s1 s2 r p1 p2 : ℕ) → 1 ≤ p1 + p2 → merge_of s1 s2 r p1 p2 ≡ exchanged_merge_of s1 s2 r p1 p2 → IsUnrounded s1 s2 r p1 p2
unrounded_from_same s1 s2 r p1 p2 some same =
    let first = ap (λ (f : ℕ × ℕ). f.0) same in
    elim (shares r p1 p2 some) [
      | inl whole ↦ inl whole.0
      | inr part ↦ elim (cases_lt (first_share r p1 p2) s1) [
        | inl more ↦ elim (cases_lt (s2 + first_share r p1 p2) r) [
          | inl less ↦ inr (inr less)
          | inr held ↦ absurd (elim (both s1 s2 r p1 p2 some) [ inl room ↦ omega arith | inr short ↦ omega arith ])
        ]
        | inr little ↦ inr (inl little)
      ]
    ]

same_from_unrounded : (s1 s2 r p1 p2 : ℕ) → 1 ≤ p1 + p2 → IsUnrounded s1 s2 r p1 p2 → let flows = merge_of s1 s2 r p1 p2 in
    let other = exchanged_merge_of s1 s2 r p1 p2 in (flows.0 ≡ other.0) × (flows.1 ≡ other.1)
same_from_unrounded s1 s2 r p1 p2 some unrounded =
    let near = shares_near r p1 p2 some in
    elim (both s1 s2 r p1 p2 some) [
      | inl room ↦ (room.1 ∙ sym room.3, room.2 ∙ sym room.4)
      | inr short ↦ elim unrounded [
        | inl whole ↦ elim (shares r p1 p2 some) [ inl sum ↦ (omega arith, omega arith) | inr part ↦ absurd (omega arith) ]
        | inr held ↦ elim held [ inl little ↦ (omega arith, omega arith) | inr less ↦ (omega arith, omega arith) ]
      ]
    ]

pub exchanged_same : (s1 s2 r p1 p2 : ℕ) → 1 ≤ p1 + p2
    → (merge_of s1 s2 r p1 p2 ≡ exchanged_merge_of s1 s2 r p1 p2) ↔ IsUnrounded s1 s2 r p1 p2
exchanged_same s1 s2 r p1 p2 some = (
  unrounded_from_same s1 s2 r p1 p2 some,
  λ unrounded. let same = same_from_unrounded s1 s2 r p1 p2 some unrounded in same_pair (merge_of s1 s2 r p1 p2) (exchanged_merge_of s1 s2 r p1 p2) same.0 same.1,
)
