-- What the merge of two lists of changes keeps.
use Rattle.std.specs.Prelude.{nat_le, All, ◌⊎◌}
use Rattle.std.proofs.Common.{◌≡◌, ℕ, true, false, ◌<◌, ◌≤◌, ◌+◌, ◌-◌, List, [], ◌∷◌, ◌++◌, length, get_or, inl, inr, arith, refl, sym, ◌∙◌, take}
use Rattle.std.proofs.lemmas.Bool.{cases_lt}
use Rattle.std.proofs.lemmas.Bool.Decides.{nat_tests}
use Rattle.std.proofs.lemmas.List.Elements.{All-nil, All-push, All-weaker}
use Rattle.std.proofs.lemmas.List.{get_or_default, get_or_push, length_push, take_all}
use Rattle.step_plan.specs.declared.change.Change.{Change}
use Rattle.step_plan.specs.Changes.{in_force, IsRising}
use Rattle.step_plan.specs.Merging.{IsHere, IsTaken}
use Rattle.step_plan.proofs.Changes.{in_force-nil, in_force_push, in_force-take, in_force-take_more, IsRising_push, step_le}

-- the change at this place is at the step
pub IsTaken-here : {X : Type 0} (changes : List (Change X)) (at : ℕ) (old : X) (step : ℕ) (c : Change X) → IsRising changes →
    at < length changes → (get_or changes at c).step ≡ step → IsTaken changes at old step (at + 1) (get_or changes at c).value
IsTaken-here changes at old step c rising some here = record {
  forward = omega arith;
  within = omega arith;
  moves = λ it. omega arith;
  left = λ k d past within. let later = rising at k d (omega arith) within in
      rw (get_or_default changes at d c some, here) at later;
  now = λ none t from before.
      let reached : nat_le (get_or changes at c).step t ≡ true = rw here (grind (arith, nat_tests)) in
      rw (in_force-take_more none changes at c t some, reached) refl;
  earlier = λ none t before.
      let not_yet : nat_le (get_or changes at c).step t ≡ false = rw here (grind (arith, nat_tests)) in
      rw (in_force-take_more none changes at c t some, not_yet) refl;
}

-- it is past the step
pub IsTaken-past : {X : Type 0} (changes : List (Change X)) (at : ℕ) (old : X) (step : ℕ) → IsRising changes →
    at ≤ length changes → ((c : Change X) → at < length changes → step < (get_or changes at c).step) →
    IsTaken changes at old step at old
IsTaken-past changes at old step rising within past = let some : Change _ = record { step = step; value = old } in record {
  forward = omega arith;
  within = within;
  moves = λ here. absurd (omega (arith, past some here.0, here.1 some));
  left = λ k c from below. let first = past c (omega arith) in omega (arith, first, step_le changes at k c c rising from below);
  now = λ none t from before. before;
  earlier = λ none t before. refl;
}

-- of one list the changes below `at` are taken, and `value` is in force after all that is merged
pub record IsCaughtUp {X : Type 0} (none : X) (changes : List (Change X)) (at : ℕ) (value : X) (merged : List (Change X)) : Type 0 where
  pub within : at ≤ length changes
  pub now : (t : ℕ) → All (λ c. c.step ≤ t) merged → in_force none (take at changes) t ≡ value
  pub left : (k : ℕ) (d : Change X) → at ≤ k → k < length changes → All (λ c. c.step < (get_or changes k d).step) merged

-- `merged` is what the changes below `i` and those below `j` give together
pub record IsMerged {X : Type 0} (joined : X → X → X) (none : X) (older : List (Change X)) (i : ℕ) (old : X) (newer : List (Change X)) (j : ℕ) (new : X) (merged : List (Change X)) : Type 0 where
  pub of_older : IsCaughtUp none older i old merged
  pub of_newer : IsCaughtUp none newer j new merged
  pub together : (t : ℕ) → in_force none merged t ≡ joined (in_force none (take i older) t) (in_force none (take j newer) t)
  pub rising : IsRising merged

IsCaughtUp-none : {X : Type 0} (none : X) (changes : List (Change X)) → IsCaughtUp none changes 0 none []
IsCaughtUp-none none changes = record {
  within = omega arith;
  now = λ t by. in_force-nil none t;
  left = λ k d past within. All-nil (λ c. c.step < (get_or changes k d).step);
}

-- nothing is taken yet
pub IsMerged-none : {X : Type 0} (joined : X → X → X) (none : X) (older newer : List (Change X)) → joined none none ≡ none →
    IsMerged joined none older 0 none newer 0 none []
IsMerged-none joined none older newer nothing = record {
  of_older = IsCaughtUp-none none older;
  of_newer = IsCaughtUp-none none newer;
  together = λ t. rw (in_force-nil none t) (sym nothing);
  rising = λ i j c before within. absurd (omega arith);
}

here_is_past : {X : Type 0} (none : X) (changes : List (Change X)) (at : ℕ) (value : X) (merged : List (Change X)) (step : ℕ) →
    IsHere changes at step → IsCaughtUp none changes at value merged → All (λ c. c.step < step) merged
here_is_past none changes at value merged step here caught k d within =
    let e = here.1 d in
    let before = caught.left at d (omega arith) here.0 k d within in
    rw e at before

-- the next step is past all that is merged
pub next_is_past : {X : Type 0} (joined : X → X → X) (none : X) (older : List (Change X)) (i : ℕ) (old : X) (newer : List (Change X)) (j : ℕ) (new : X)
    (merged : List (Change X)) (step : ℕ) → IsHere older i step ⊎ IsHere newer j step →
    IsMerged joined none older i old newer j new merged → All (λ c. c.step < step) merged
next_is_past joined none older i old newer j new merged step (inl here) both = here_is_past none older i old merged step here both.of_older
next_is_past joined none older i old newer j new merged step (inr here) both = here_is_past none newer j new merged step here both.of_newer

-- from the next step on, the value taken is in force
pub now_taken : {X : Type 0} (none : X) (changes : List (Change X)) (from : ℕ) (old : X) (merged : List (Change X)) (step to : ℕ) (new : X) (t : ℕ) →
    All (λ c. c.step < step) merged → IsCaughtUp none changes from old merged → IsTaken changes from old step to new → step ≤ t →
    in_force none (take to changes) t ≡ new
now_taken none changes from old merged step to new t past caught taken reached =
    taken.now none t reached (caught.now t (All-weaker (λ c. c.step < step) (λ c. c.step ≤ t) (λ c before. omega arith) merged past))

-- the whole list's value at the next step
pub at_step : {X : Type 0} (none : X) (changes : List (Change X)) (from : ℕ) (old : X) (merged : List (Change X)) (step to : ℕ) (new : X) →
    All (λ c. c.step < step) merged → IsCaughtUp none changes from old merged → IsTaken changes from old step to new →
    in_force none changes step ≡ new
at_step none changes from old merged step to new past caught taken =
    sym (in_force-take none changes (length changes - to) to step (omega (arith, taken.within)) taken.left) ∙
    now_taken none changes from old merged step to new step past caught taken (omega arith)

IsCaughtUp-next : {X : Type 0} (none : X) (changes : List (Change X)) (from : ℕ) (old : X) (merged : List (Change X)) (to : ℕ) (new : X) (c : Change X) →
    All (λ x. x.step < c.step) merged → IsCaughtUp none changes from old merged → IsTaken changes from old c.step to new →
    IsCaughtUp none changes to new (merged ++ c ∷ [])
IsCaughtUp-next none changes from old merged to new c past caught taken = record {
  within = taken.within;
  now = λ t by.
      let last = by (length merged) c (omega (arith, length_push merged c)) in
      let reached : c.step ≤ t = rw (get_or_push merged c c (length merged) refl) at last in
      now_taken none changes from old merged c.step to new t past caught taken reached;
  left = λ k d upto within.
      let later = taken.left k d upto within in
      All-push (λ x. x.step < (get_or changes k d).step) merged c
      (All-weaker (λ x. x.step < c.step) (λ x. x.step < (get_or changes k d).step) (λ x before. omega arith) merged past) later;
}

-- one more change, of what both give at its step
pub IsMerged-next : {X : Type 0} (joined : X → X → X) (none : X) (older : List (Change X)) (i : ℕ) (old : X) (newer : List (Change X)) (j : ℕ) (new : X)
    (merged : List (Change X)) (step i' : ℕ) (old' : X) (j' : ℕ) (new' : X) →
    All (λ x. x.step < step) merged → IsTaken older i old step i' old' → IsTaken newer j new step j' new' →
    IsMerged joined none older i old newer j new merged →
    IsMerged joined none older i' old' newer j' new' (merged ++ record { step = step; value = joined old' new' } ∷ [])
IsMerged-next joined none older i old newer j new merged step i' old' j' new' past first second both =
    let c : Change _ = record { step = step; value = joined old' new' } in
    record {
      of_older = IsCaughtUp-next none older i old merged i' old' c past both.of_older first;
      of_newer = IsCaughtUp-next none newer j new merged j' new' c past both.of_newer second;
      together = λ t. in_force_push none merged c t ∙ (elim (cases_lt t step) [
        | inl before ↦
            let not_yet : nat_le step t ≡ false = grind (arith, nat_tests) in
            rw (not_yet, first.earlier none t before, second.earlier none t before) (both.together t)
        | inr reached ↦
            let now : nat_le step t ≡ true = grind (arith, nat_tests) in
            rw (now, now_taken none older i old merged step i' old' t past both.of_older first reached, now_taken none newer j new merged step j' new' t past both.of_newer second reached) refl
      ]);
      rising = IsRising_push merged c both.rising past;
    }

-- all changes are taken
pub IsMerged-all : {X : Type 0} (joined : X → X → X) (none : X) (older : List (Change X)) (i : ℕ) (old : X) (newer : List (Change X)) (j : ℕ) (new : X)
    (merged : List (Change X)) → length older ≤ i → length newer ≤ j → IsMerged joined none older i old newer j new merged → (t : ℕ) →
    in_force none merged t ≡ joined (in_force none older t) (in_force none newer t)
IsMerged-all joined none older i old newer j new merged first second both t =
    rw (take_all i older first, take_all j newer second) at (both.together t)
