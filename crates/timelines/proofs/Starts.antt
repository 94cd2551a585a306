-- What is in force at step 0 may stand for what is in force at the start.
use Rattle.std.specs.Prelude.{nat_le, Option, reverse}
use Rattle.std.specs.List.{find}
use Rattle.std.specs.Option.{option_map_or}
use Rattle.std.proofs.Common.{◌≡◌, ℕ, false, List, [], ◌∷◌, refl, inl, inr, arith}
use Rattle.std.proofs.lemmas.Bool.{cases_Bool}
use Rattle.std.proofs.lemmas.Bool.Decides.{nat_tests}
use Rattle.step_plan.specs.Changes.{in_force}
use Rattle.step_plan.specs.declared.change.Change.{Change}

abbrev found_at : (t : ℕ) → List (Change ℕ) → Option (Change ℕ)
found_at t changes = find (λ change. nat_le change.step t) changes

abbrev value_or : (start : ℕ) → Option (Change ℕ) → ℕ
value_or start found = option_map_or (λ change. change.value) found start

-- as far as a change is found at step t, the start says nothing, and else none is found at step 0
start-is : (start t : ℕ) (changes : List (Change ℕ)) → value_or (value_or start (found_at 0 changes)) (found_at t changes) ≡ value_or start (found_at t changes)
start-is start t [] = refl
start-is start t (change ∷ changes) = elim (cases_Bool (nat_le change.step t)) [
  | inl now ↦ rw now refl
  | inr later ↦
      let not_first : nat_le change.step 0 ≡ false = grind (arith, nat_tests) in
      rw (later, not_first) (start-is start t changes)
]

pub in_force-start : (start t : ℕ) (changes : List (Change ℕ)) → in_force (in_force start changes 0) changes t ≡ in_force start changes t
unfolding in_force
in_force-start start t changes = start-is start t (reverse changes)
