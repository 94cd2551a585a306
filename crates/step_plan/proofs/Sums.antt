-- Sums over lists, over the numbers of a range, and sums of which few terms are more than 0.
use Rattle.std.specs.Prelude.{sum_by, count_by, All, if◌then◌else◌, ◌==◌}
use Rattle.std.specs.List.{filter, list_any, range_with_len, sum}
use Rattle.std.proofs.Common.{◌≡◌, ℕ, Bool, inl, inr, zero, suc, false, true, add-zero, zero-add, ◌+◌, ◌*◌, ◌<◌, ◌≤◌, List, [], ◌∷◌, length, get_or, map, arith, refl, sym, ap, ◌∙◌}
use Rattle.std.proofs.lemmas.Bool.{cases_Bool, cases_eq, eq-eqb, ne_eqb}
use Rattle.std.proofs.lemmas.Bool.Decides.{nat_tests}
use Rattle.std.proofs.lemmas.List.{ext_get_or, get_or-map, length-map}
use Rattle.std.proofs.lemmas.List.Elements.{All-head, All-tail}
use Rattle.std.proofs.lemmas.List.FromFn.{get_or-map-range_with_len, length-map-range_with_len}
use Rattle.std.proofs.lemmas.List.Sums.{sum-map, sum_by-cons, sum_by-le}

pub sum_by_agree : {X : Type 0} (f g : X → ℕ) (xs : List X) → ((x : X) → f x ≡ g x) → sum_by f xs ≡ sum_by g xs
sum_by_agree f g [] same = refl
sum_by_agree f g (x ∷ xs) same =
    omega (arith, sum_by-cons f x xs, sum_by-cons g x xs, same x, sum_by_agree f g xs same)

pub sum_by_splits : {X : Type 0} (f g h : X → ℕ) (xs : List X) → ((x : X) → f x ≡ g x + h x) →
    sum_by f xs ≡ sum_by g xs + sum_by h xs
sum_by_splits f g h [] parts = refl
sum_by_splits f g h (x ∷ xs) parts =
    omega (
      arith,
      sum_by-cons f x xs,
      sum_by-cons g x xs,
      sum_by-cons h x xs,
      parts x,
      sum_by_splits f g h xs parts,
    )

pub sum_by-zero : {X : Type 0} (f : X → ℕ) (xs : List X) → All (λ x. f x ≤ 0) xs → sum_by f xs ≡ 0
sum_by-zero f xs none = omega (arith, sum_by-le f 0 xs none)

-- a sum over the first m numbers from a, and the next n
pub sum_by_range_split : (f : ℕ → ℕ) (a m n : ℕ) →
    sum_by f (range_with_len a m) + sum_by f (range_with_len (a + m) n) ≡ sum_by f (range_with_len a (m + n))
sum_by_range_split f a zero n = simp (add-zero, zero-add)
sum_by_range_split f a (suc m) n =
    let later : a + suc m ≡ (a + 1) + m = omega arith in
    let longer : suc m + n ≡ suc (m + n) = omega arith in
    rw (later, longer) (omega (
      arith,
      sum_by-cons f a (range_with_len (a + 1) m),
      sum_by-cons f a (range_with_len (a + 1) (m + n)),
      sum_by_range_split f (a + 1) m n,
    ))

-- a sum over a list, by the places in it
pub sum_by_places : {X : Type 0} (f : X → ℕ) (xs : List X) (d : X) → sum_by f xs ≡ sum_by (λ k. f (get_or xs k d)) (range_with_len 0 (length xs))
sum_by_places f xs d =
    let at : ℕ → ℕ = λ k. f (get_or xs k d) in
    let n : ℕ = length xs in
    let same : map f xs ≡ map at (range_with_len 0 n) =
    ext_get_or 0 (map f xs) (map at (range_with_len 0 n)) (length-map xs f ∙ sym (length-map-range_with_len at 0 n))
    (λ k lt.
    let within : k < n = omega (arith, length-map xs f) in
    get_or-map f xs k d 0 within ∙ sym (get_or-map-range_with_len at 0 n k k 0 within (omega arith))) in
    sym (sum-map f xs) ∙ ap sum same ∙ sum-map at (range_with_len 0 n)

-- a sum of which each term is at most `m` times that of another
pub sum_by-le-times : {X : Type 0} (f g : X → ℕ) (m : ℕ) (xs : List X) → All (λ x. f x ≤ g x * m) xs → sum_by f xs ≤ sum_by g xs * m
sum_by-le-times f g m [] each = omega arith
sum_by-le-times f g m (x ∷ xs) each = omega (
  arith,
  sum_by-cons f x xs,
  sum_by-cons g x xs,
  ap (λ n. n * m) (sum_by-cons g x xs),
  All-head (λ y. f y ≤ g y * m) x xs each,
  sum_by-le-times f g m xs (All-tail (λ y. f y ≤ g y * m) x xs each),
)

-- a sum of which one term is `value` and the others are 0
pub sum_by_range_none : (value k a n : ℕ) → k < a → sum_by (λ j. if k == j then value else 0) (range_with_len a n) ≡ 0
sum_by_range_none value k a zero past = refl
sum_by_range_none value k a (suc n) past =
    let here : (k == a) ≡ false = grind (arith, nat_tests) in
    rw (sum_by-cons (λ j. if k == j then value else 0) a (range_with_len (a + 1) n)) (
    rw (here, zero-add) (sum_by_range_none value k (a + 1) n (omega arith))
    )

pub sum_by_range_one : (value k a n : ℕ) → a ≤ k → k < a + n →
    sum_by (λ j. if k == j then value else 0) (range_with_len a n) ≡ value
sum_by_range_one value k a zero from below = absurd (omega arith)
sum_by_range_one value k a (suc n) from below =
    rw (sum_by-cons (λ j. if k == j then value else 0) a (range_with_len (a + 1) n)) (
    elim (cases_eq k a) [
      | inl same ↦
          let here : (k == a) ≡ true = eq-eqb k a same in
          rw (here, sum_by_range_none value k (a + 1) n (omega arith)) (add-zero value)
      | inr other ↦
          let here : (k == a) ≡ false = ne_eqb k a other in
          rw (here, zero-add) (sum_by_range_one value k (a + 1) n (omega arith) (omega arith))
    ]
    )

-- a sum over a filter
pub sum_by-filter : {X : Type 0} (f : X → ℕ) (p : X → Bool) (xs : List X) →
    sum_by f (filter p xs) ≡ sum_by (λ x. if p x then f x else 0) xs
sum_by-filter f p [] = refl
sum_by-filter f p (x ∷ xs) =
    sum_by-filter_cons f p x xs (p x) ∙
    ap (λ rest. (if p x then f x else 0) + rest) (sum_by-filter f p xs) ∙
    sym (sum_by-cons (λ y. if p y then f y else 0) x xs)
  where
    sum_by-filter_cons : {X : Type 0} (f : X → ℕ) (p : X → Bool) (x : X) (xs : List X) (b : Bool) →
        sum_by f (if b then x ∷ filter p xs else filter p xs) ≡ (if b then f x else 0) + sum_by f (filter p xs)
    sum_by-filter_cons f p x xs true = sum_by-cons f x (filter p xs)
    sum_by-filter_cons f p x xs false = sym (zero-add (sum_by f (filter p xs)))

-- the swap of two sums
pub sum_by-swap : {X Y : Type 0} (f : X → Y → ℕ) (xs : List X) (ys : List Y) →
    sum_by (λ x. sum_by (f x) ys) xs ≡ sum_by (λ y. sum_by (λ x. f x y) xs) ys
sum_by-swap f [] ys = sym (sum_by-zero (λ y. 0) ys (λ k d within. omega arith))
sum_by-swap f (x ∷ xs) ys =
    sum_by-cons (λ z. sum_by (f z) ys) x xs ∙
    ap (λ rest. sum_by (f x) ys + rest) (sum_by-swap f xs ys) ∙
    sym (sum_by_splits (λ y. sum_by (λ z. f z y) (x ∷ xs)) (f x) (λ y. sum_by (λ z. f z y) xs) ys (λ y. sum_by-cons (λ z. f z y) x xs))

-- one more item
one_more : (b : Bool) (value m sum count : ℕ) → value ≤ (if b then m else 0) → sum ≤ count * m →
    value + sum ≤ ((if b then 1 else 0) + count) * m
one_more true value m sum count here rest = omega arith
one_more false value m sum count here rest = omega arith

-- where at most `m` comes of an item that passes, and nothing of another
pub sum_by-le-count_by : {X : Type 0} (P : X → Type 0) (f : X → ℕ) (p : X → Bool) (m : ℕ) (xs : List X) →
    ((x : X) → P x → f x ≤ (if p x then m else 0)) → All P xs → sum_by f xs ≤ count_by p xs * m
sum_by-le-count_by P f p m [] each all = omega arith
sum_by-le-count_by P f p m (x ∷ xs) each all =
    rw (sum_by-cons f x xs, sum_by-cons (λ y. if p y then 1 else 0) x xs)
    (one_more (p x) (f x) m (sum_by f xs) (count_by p xs) (each x (All-head P x xs all))
    (sum_by-le-count_by P f p m xs each (All-tail P x xs all)))

-- sums whose terms agree item by item
pub sum_by-same : {X : Type 0} (P : X → Type 0) (f g : X → ℕ) (xs : List X) → ((x : X) → P x → f x ≡ g x) → All P xs →
    sum_by f xs ≡ sum_by g xs
sum_by-same P f g [] each all = refl
sum_by-same P f g (x ∷ xs) each all =
    omega (
      arith,
      sum_by-cons f x xs,
      sum_by-cons g x xs,
      each x (All-head P x xs all),
      sum_by-same P f g xs each (All-tail P x xs all),
    )

pub count_by-cons : {X : Type 0} (p : X → Bool) (x : X) (xs : List X) → count_by p (x ∷ xs) ≡ (if p x then 1 else 0) + count_by p xs
count_by-cons p x xs = sum_by-cons (λ y. if p y then 1 else 0) x xs

counts : (b test : Bool) → b ≡ test → ◌≡◌ {A = ℕ} (if b then 1 else 0) (if test then 1 else 0)
counts b test same = let f : Bool → ℕ = λ v. if v then 1 else 0 in ap f same

-- a count where an item passes
pub count_by-some : {X : Type 0} (p : X → Bool) (xs : List X) (k : ℕ) (d : X) → k < length xs → p (get_or xs k d) ≡ true →
    1 ≤ count_by p xs
count_by-some p [] k d within here = absurd (omega arith)
count_by-some p (x ∷ xs) zero d within here = omega (arith, count_by-cons p x xs, counts (p x) true here)
count_by-some p (x ∷ xs) (suc k) d within here = omega (arith, count_by-cons p x xs, count_by-some p xs k d (omega arith) here)

-- a sum of which no term is more than 0
pub sum_by-none : {X : Type 0} (f : X → ℕ) (p : X → Bool) (xs : List X) → ((x : X) → p x ≡ false → f x ≡ 0) →
    count_by p xs ≤ 0 → sum_by f xs ≡ 0
sum_by-none f p [] each none = refl
sum_by-none f p (x ∷ xs) each none = elim (cases_Bool (p x)) [
  | inl passes ↦ absurd (omega (arith, count_by-cons p x xs, counts (p x) true passes))
  | inr fails ↦
      let rest : count_by p xs ≤ 0 = omega (arith, count_by-cons p x xs) in
      omega (arith, sum_by-cons f x xs, each x fails, sum_by-none f p xs each rest)
]

-- a sum of which one term alone may be more than 0
pub sum_by-one : {X : Type 0} (f : X → ℕ) (p : X → Bool) (xs : List X) (k : ℕ) (d : X) → ((x : X) → p x ≡ false → f x ≡ 0) →
    count_by p xs ≤ 1 → k < length xs → p (get_or xs k d) ≡ true → sum_by f xs ≡ f (get_or xs k d)
sum_by-one f p [] k d each one within here = absurd (omega arith)
sum_by-one f p (x ∷ xs) zero d each one within here =
    let rest : count_by p xs ≤ 0 = omega (arith, count_by-cons p x xs, counts (p x) true here) in
    omega (arith, sum_by-cons f x xs, sum_by-none f p xs each rest)
sum_by-one f p (x ∷ xs) (suc k) d each one within here = elim (cases_Bool (p x)) [
  | inl passes ↦
      absurd (omega (arith, count_by-cons p x xs, counts (p x) true passes, count_by-some p xs k d (omega arith) here))
  | inr fails ↦
      let rest : count_by p xs ≤ 1 = omega (arith, count_by-cons p x xs) in
      omega (arith, sum_by-cons f x xs, each x fails, sum_by-one f p xs k d each rest (omega arith) here)
]

-- a sum of items that don't pass
pub sum_by-no : {X : Type 0} (f : X → ℕ) (p : X → Bool) (xs : List X) → ((x : X) → p x ≡ false → f x ≡ 0) →
    list_any p xs ≡ false → sum_by f xs ≡ 0
sum_by-no f p [] each none = refl
sum_by-no f p (x ∷ xs) each none = elim (cases_Bool (p x)) [
  | inl passes ↦ let some = rw passes at none in cc
  | inr fails ↦ omega (arith, sum_by-cons f x xs, each x fails, sum_by-no f p xs each (rw fails at none))
]
