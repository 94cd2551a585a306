-- What a cell holds that a region knows: each has one place.
use Rattle.std.specs.Prelude.{eqb, ◌==◌, Option, None, unwrap_or, slice_index, slice_index_or}
use Rattle.std.specs.List.{list_any, position_or_len}
use Rattle.std.specs.List.Sorted.{IsStrictlyIncreasing}
use Rattle.std.proofs.Common.{◌≡◌, ◌≢◌, ℕ, ◌<◌, inl, inr, false, List, length, refl, sym, ◌∙◌}
use Rattle.std.proofs.lemmas.Bool.{cases_Bool}
use Rattle.std.proofs.lemmas.List.Elements.{Contains-get_or}
use Rattle.flow_model.specs.State.{occupancy}
use Rattle.flow_model.specs.declared.row.Row.{Row}
use Rattle.region_cut.proofs.Anys.{Contains-from_test, test_from_Contains}
use Rattle.region_cut.proofs.Increasing.{position_is}
use Rattle.region_step.specs.Advance.{known}
use Rattle.region_step.specs.Apart.{AreApart}

-- a cell of the halo is none of its own
pub halo-not_own : (cells halo : List ℕ) (q : ℕ) → AreApart cells halo → q < length halo → list_any (eqb (slice_index halo q)) cells ≡ false
halo-not_own cells halo q apart within = elim (cases_Bool (list_any (eqb (slice_index halo q)) cells)) [
  | inl own ↦
      let none = apart.apart (slice_index halo q) (Contains-from_test cells (slice_index halo q) own) in
      let some = test_from_Contains halo (slice_index halo q) (Contains-get_or halo q 0 within) in cc
  | inr other ↦ other
]

pub own-not_halo : (cells halo : List ℕ) (p q : ℕ) → AreApart cells halo → p < length cells → q < length halo → slice_index cells p ≢ slice_index halo q
own-not_halo cells halo p q apart within inside same =
    let own = test_from_Contains cells (slice_index cells p) (Contains-get_or cells p 0 within) in
    let other = halo-not_own cells halo q apart inside in
    cc

-- in a rising list each number has one place
pub one_place : (xs : List ℕ) (p q : ℕ) → IsStrictlyIncreasing xs → p < length xs → q < length xs → slice_index xs p ≡ slice_index xs q → p ≡ q
one_place xs p q up within inside same = sym (position_is xs p (slice_index xs q) up within same) ∙ position_is xs q (slice_index xs q) up inside refl

-- what it holds
pub known-own : (cells halo : List ℕ) (rows : List Row) (put : List (Option ℕ)) (p : ℕ) → AreApart cells halo → p < length cells →
    known cells halo rows put (slice_index cells p) ≡ occupancy rows p
unfolding known
known-own cells halo rows put p apart within =
    let own = test_from_Contains cells (slice_index cells p) (Contains-get_or cells p 0 within) in
    let place : position_or_len (λ j. j == slice_index cells p) cells ≡ p = position_is cells p (slice_index cells p) apart.rising within refl in
    rw (own, place) refl

pub known-halo : (cells halo : List ℕ) (rows : List Row) (put : List (Option ℕ)) (q : ℕ) → AreApart cells halo → q < length halo →
    known cells halo rows put (slice_index halo q) ≡ unwrap_or (slice_index_or put q None) 0
unfolding known
known-halo cells halo rows put q apart within =
    let other = halo-not_own cells halo q apart within in
    let place : position_or_len (λ j. j == slice_index halo q) halo ≡ q = position_is halo q (slice_index halo q) apart.halo_rising within refl in
    rw (other, place) refl
