-- What is in force, and that steps rise, where a change comes last.
use Rattle.std.specs.Prelude.{nat_le, nat_lt, if◌then◌else◌, map, reverse, All, Option, None, Some}
use Rattle.std.specs.List.{find}
use Rattle.std.specs.Option.{option_map, option_map_or, unwrap_or}
use Rattle.std.proofs.Common.{◌≡◌, ℕ, zero, suc, true, false, ◌<◌, ◌≤◌, ◌+◌, List, [], ◌∷◌, ◌++◌, length, get_or, inl, inr, arith, refl, sym, ap, subst, ◌∙◌, take}
use Rattle.std.proofs.lemmas.Bool.{cases_eq, cases_lt}
use Rattle.std.proofs.lemmas.Bool.Decides.{nat_tests}
use Rattle.std.proofs.lemmas.List.{get_or-map, get_or_append_left, get_or_default, get_or_push, length-map, length_push, map-append, reverse-append, take_all, take_more}
use Rattle.step_plan.specs.declared.change.Change.{Change}
use Rattle.step_plan.specs.Changes.{in_force, IsRising}
use Rattle.step_plan.specs.Records.{in_range}

pub in_force-nil : {X : Type 0} (start : X) (t : ℕ) → in_force start [] t ≡ start
unfolding in_force
in_force-nil start t = refl

pub in_force_push : {X : Type 0} (start : X) (xs : List (Change X)) (c : Change X) (t : ℕ) →
    in_force start (xs ++ c ∷ []) t ≡ (if nat_le c.step t then c.value else in_force start xs t)
unfolding in_force
in_force_push start xs c t =
    rw (reverse-append xs (c ∷ [])) (
    elim (nat_le c.step t) as (λ b. option_map_or (λ change. change.value) (if b then Some c else find (λ change. nat_le change.step t) (reverse xs)) start ≡
    (if b then c.value else option_map_or (λ change. change.value) (find (λ change. nat_le change.step t) (reverse xs)) start)) [ true ↦ refl | false ↦ refl ]
    )

pub IsRising_push : {X : Type 0} (xs : List (Change X)) (c : Change X) → IsRising xs → All (λ x. x.step < c.step) xs →
    IsRising (xs ++ c ∷ [])
IsRising_push xs c rising below i j d before within =
    let first : i < length xs = omega (arith, length_push xs c) in
    rw (get_or_append_left xs (c ∷ []) d i first) (
    elim (cases_lt j (length xs)) [
      | inl old ↦ rw (get_or_append_left xs (c ∷ []) d j old) (rising i j d before old)
      | inr past ↦
          let last : length xs ≡ j = omega (arith, length_push xs c) in
          rw (get_or_push xs c d j last) (below i d first)
    ]
    )

-- one more change of those that came first
pub in_force-take_more : {X : Type 0} (start : X) (xs : List (Change X)) (i : ℕ) (d : Change X) (t : ℕ) → i < length xs →
    in_force start (take (i + 1) xs) t ≡ (if nat_le (get_or xs i d).step t then (get_or xs i d).value else in_force start (take i xs) t)
in_force-take_more start xs i d t within =
    rw (take_more xs i d within) (in_force_push start (take i xs) (get_or xs i d) t)

-- where the changes that are left are past the step
pub in_force-take : {X : Type 0} (start : X) (xs : List (Change X)) (n i t : ℕ) → i + n ≡ length xs →
    ((k : ℕ) (c : Change X) → i ≤ k → k < length xs → t < (get_or xs k c).step) → in_force start (take i xs) t ≡ in_force start xs t
in_force-take start xs zero i t whole past = rw (take_all i xs (omega arith)) refl
in_force-take start xs (suc n) i t whole past =
    let some : i < length xs = omega arith in
    let d : Change _ = record { step = 0; value = start } in
    let later = past i d (omega arith) some in
    let not_yet : nat_le (get_or xs i d).step t ≡ false = grind (arith, nat_tests) in
    sym (rw not_yet at (in_force-take_more start xs i d t some)) ∙
    in_force-take start xs n (i + 1) t (omega arith) (λ k c from within. past k c (omega arith) within)

-- a change and those after it
pub step_le : {X : Type 0} (xs : List (Change X)) (i k : ℕ) (c d : Change X) → IsRising xs → i ≤ k → k < length xs →
    (get_or xs i c).step ≤ (get_or xs k d).step
step_le xs i k c d rising upto within = elim (cases_eq i k) [
  | inl same ↦ rw (same, get_or_default xs k c d within) (omega arith)
  | inr other ↦ let later = rising i k d (omega arith) within in rw (get_or_default xs i c d (omega arith)) (omega arith)
]

-- no step is in an empty range
pub in_range-none : (from to t : ℕ) → to ≤ from → in_range from to t ≡ false
in_range-none from to t none = grind (arith, nat_tests)

-- a value from one step on, and nothing from a later one on
pub in_force_span : {X : Type 0} (none value : X) (from to t : ℕ) → from < to →
    in_force none (([] ++ record { step = from; value = value } ∷ []) ++ record { step = to; value = none } ∷ []) t ≡
    (if in_range from to t then value else none)
in_force_span none value from to t some =
    in_force_push none (record { step = from; value = value } ∷ []) (record { step = to; value = none }) t ∙
    ap (λ x. if nat_le to t then none else x) (in_force_push none [] (record { step = from; value = value }) t) ∙
    (elim (cases_lt t from) [
      | inl before ↦
          let a : nat_le from t ≡ false = grind (arith, nat_tests) in
          let b : nat_le to t ≡ false = grind (arith, nat_tests) in
          rw (a, b) (in_force-nil none t)
      | inr past ↦
          let a : nat_le from t ≡ true = grind (arith, nat_tests) in
          elim (cases_lt t to) [
            | inl within ↦
                let b : nat_le to t ≡ false = grind (arith, nat_tests) in
                let d : nat_lt t to ≡ true = grind (arith, nat_tests) in
                rw (a, b, d) refl
            | inr after ↦
                let b : nat_le to t ≡ true = grind (arith, nat_tests) in
                let d : nat_lt t to ≡ false = grind (arith, nat_tests) in
                rw (a, b, d) refl
          ]
    ])

-- the changes of what a function makes of the values
abbrev pub changed : {X Y : Type 0} → (X → Y) → Change X → Change Y
changed f c = record { step = c.step; value = f c.value }

find-changed : {X Y : Type 0} (f : X → Y) (xs : List (Change X)) (t : ℕ) →
    find (λ c. nat_le c.step t) (map (changed f) xs) ≡ option_map (changed f) (find (λ c. nat_le c.step t) xs)
find-changed f [] t = refl
find-changed f (x ∷ xs) t =
    elim (nat_le x.step t) as (λ b. (if b then Some (changed f x) else find (λ c. nat_le c.step t) (map (changed f) xs)) ≡
    option_map (changed f) (if b then Some x else find (λ c. nat_le c.step t) xs)) [ true ↦ refl | false ↦ find-changed f xs t ]

value-changed : {X Y : Type 0} (f : X → Y) (start : X) (o : Option (Change X)) →
    option_map_or (λ c. c.value) (option_map (changed f) o) (f start) ≡ f (option_map_or (λ c. c.value) o start)
value-changed f start None = refl
value-changed f start (Some c) = refl

map-reverse : {X Y : Type 0} (f : X → Y) (xs : List X) → reverse (map f xs) ≡ map f (reverse xs)
map-reverse f [] = refl
map-reverse f (x ∷ xs) =
    reverse-append (f x ∷ []) (map f xs) ∙
    ap (λ front. front ++ f x ∷ []) (map-reverse f xs) ∙
    sym (map-append f (reverse xs) (x ∷ [])) ∙
    ap (map f) (sym (reverse-append (x ∷ []) xs))

pub in_force-map : {X Y : Type 0} (f : X → Y) (start : X) (xs : List (Change X)) (t : ℕ) →
    in_force (f start) (map (changed f) xs) t ≡ f (in_force start xs t)
unfolding in_force
in_force-map f start xs t =
    rw (map-reverse (changed f) xs, find-changed f (reverse xs) t) (value-changed f start (find (λ c. nat_le c.step t) (reverse xs)))

pub IsRising-map : {X Y : Type 0} (f : X → Y) (xs : List (Change X)) → IsRising xs → IsRising (map (changed f) xs)
IsRising-map f [] rising i j d before within = absurd (omega arith)
IsRising-map f (x ∷ xs) rising i j d before within =
    let inside : j < length (x ∷ xs) = rw length-map at within in
    let both = rising i j x before inside in
    rw (get_or-map (changed f) (x ∷ xs) i x d (omega arith), get_or-map (changed f) (x ∷ xs) j x d inside) both

-- with `own` in force where the changes say nothing
abbrev pub filled : {X : Type 0} → (own : X) → List (Change (Option X)) → List (Change X)
filled own changes = map (λ c. record { step = c.step; value = unwrap_or c.value own }) changes

pub in_force-filled : {X Y : Type 0} (own : Y) (changes : List (Change (Option Y))) (all : List (Change Y)) (value : X → Y) (o : Option X) (t : ℕ) →
    all ≡ filled own changes → in_force None changes t ≡ option_map value o → in_force own all t ≡ option_map_or value o own
in_force-filled own changes all value o t is found =
    ap (λ xs. in_force own xs t) is ∙
    in_force-map (λ v. unwrap_or v own) None changes t ∙
    ap (λ v. unwrap_or v own) found ∙
    unwrap_or-option_map value o own
  where
    unwrap_or-option_map : {X Y : Type 0} (f : X → Y) (o : Option X) (d : Y) → unwrap_or (option_map f o) d ≡ option_map_or f o d
    unwrap_or-option_map f None d = refl
    unwrap_or-option_map f (Some x) d = refl

pub IsRising-filled : {X : Type 0} (own : X) (changes : List (Change (Option X))) (all : List (Change X)) → all ≡ filled own changes →
    IsRising changes → IsRising all
IsRising-filled own changes all is rising = subst (λ xs. IsRising xs) (sym is) (IsRising-map (λ v. unwrap_or v own) changes rising)
