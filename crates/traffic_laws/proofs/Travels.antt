-- The times of a part.
use Rattle.std.specs.Prelude.{None, Option, Some, nat_lt, position}
use Rattle.std.specs.List.{position_or_len}
use Rattle.std.specs.Option.{IsSomeAnd}
use Rattle.std.proofs.Common.{◌≡◌, inl, inr, ℕ, Bool, zero, suc, true, ◌+◌, ◌<◌, ◌≤◌, List, [], ◌∷◌, length, get_or, slice_index, arith, refl}
use Rattle.std.proofs.lemmas.Bool.{cases_Bool, lt-ltb, ltb-true}
use Rattle.std.proofs.lemmas.List.Quantifiers.{position-Some}
use Rattle.network_file.specs.Network.{Network}
use Rattle.flow_ledger.proofs.StateRows.{gone-zero}
use Rattle.traffic_laws.specs.Curves.{AreCurvesOf}
use Rattle.traffic_laws.specs.Times.{IsEarlierBy, enters_at, leaves_at}
use Rattle.traffic_laws.proofs.Areas.{never-cross}

-- the first place that passes, where one that does is known

first-by : {X : Type 0} (p : X → Bool) (xs : List X) (i : ℕ) (d : X) → i < length xs → p (get_or xs i d) ≡ true → position_or_len p xs ≤ i
first-by p [] i d within here = absurd (omega arith)
first-by p (x ∷ xs) zero d within here = rw here (omega arith)
first-by p (x ∷ xs) (suc i) d within here = elim (cases_Bool (p x)) [
  | inl passes ↦ rw passes (omega arith)
  | inr fails ↦ rw fails (omega (arith, first-by p xs i d (omega arith) here))
]

position-by : {X : Type 0} (p : X → Bool) (xs : List X) (i steps l : ℕ) (d : X) → i < length xs → p (get_or xs i d) ≡ true → i + steps ≤ l →
    IsSomeAnd (position p xs) (λ e. e + steps ≤ l)
position-by p xs i steps l d within here in_time =
    let first = first-by p xs i d within here in
    let there : nat_lt (position_or_len p xs) (length xs) ≡ true = lt-ltb (position_or_len p xs) (length xs) (omega (arith, first)) in
    rw there (omega (arith, first))

-- a time that is found
when_found : (steps : ℕ) (earlier later : Option ℕ) → ((l : ℕ) → later ≡ Some l → IsSomeAnd earlier (λ e. e + steps ≤ l)) →
    IsEarlierBy steps earlier later
when_found steps earlier None each = tt
when_found steps earlier (Some l) each = each l refl

-- a part that has gone came a step before

came_before : (first : ℕ) (come gone : List ℕ) (k l : ℕ) (net : Network) (i : ℕ) → AreCurvesOf net i first come gone → l < length gone →
    k < slice_index gone l → IsSomeAnd (enters_at first come k) (λ e. e + 1 ≤ l)
came_before first come gone k zero net i curves within past =
    absurd (omega (arith, curves.departures 0 within, gone-zero net i curves.has_cell))
came_before first come gone k (suc l) net i curves within past =
    let next : suc l ≡ l + 1 = omega arith in
    let past_next : k < slice_index gone (l + 1) = rw next at past in
    let within_next : l + 1 < length gone = omega arith in
    let crosses = never-cross first come gone net i curves l within_next in
    position-by (λ parts. nat_lt k (first + parts)) come l 1 (suc l) 0 (omega (arith, curves.same_steps))
    (lt-ltb k (first + get_or come l 0) (omega (arith, crosses, past_next))) (omega arith)

pub takes-a-step : (first : ℕ) (come gone : List ℕ) (k : ℕ) (net : Network) (i : ℕ) → AreCurvesOf net i first come gone →
    IsEarlierBy 1 (enters_at first come k) (leaves_at gone k)
takes-a-step first come gone k net i curves =
    when_found 1 (enters_at first come k) (leaves_at gone k) (λ l found.
    let here = position-Some (λ parts. nat_lt k parts) gone l 0 found in
    came_before first come gone k l net i curves here.0 (ltb-true k (get_or gone l 0) (here.1)))

-- no part overtakes one before it

in_order : {X : Type 0} (p q : X → Bool) (xs : List X) (d : X) → ((x : X) → q x ≡ true → p x ≡ true) →
    IsEarlierBy 0 (position p xs) (position q xs)
in_order p q xs d weaker =
    when_found 0 (position p xs) (position q xs) (λ l found.
    let here = position-Some q xs l d found in
    position-by p xs l 0 l d here.0 (weaker (get_or xs l d) (here.1)) (omega arith))

pub enters-in-order : (first : ℕ) (come : List ℕ) (before k : ℕ) → before ≤ k → IsEarlierBy 0 (enters_at first come before) (enters_at first come k)
enters-in-order first come before k earlier =
    in_order (λ parts. nat_lt before (first + parts)) (λ parts. nat_lt k (first + parts)) come 0
    (λ parts past. lt-ltb before (first + parts) (omega (arith, ltb-true k (first + parts) past)))

pub leaves-in-order : (gone : List ℕ) (before k : ℕ) → before ≤ k → IsEarlierBy 0 (leaves_at gone before) (leaves_at gone k)
leaves-in-order gone before k earlier =
    in_order (λ parts. nat_lt before parts) (λ parts. nat_lt k parts) gone 0
    (λ parts past. lt-ltb before parts (omega (arith, ltb-true k parts past)))
