-- Changes that come one after the other.
use Rattle.std.specs.Prelude.{nat_le}
use Rattle.std.proofs.Common.{◌≡◌, ℕ, true, ◌+◌, ◌-◌, ◌<◌, ◌≤◌, List, length, get_or, ap, sym, ◌∙◌, arith}
use Rattle.std.proofs.lemmas.Bool.Decides.{nat_tests}
use Rattle.step_plan.specs.Changes.{in_force}
use Rattle.step_plan.specs.declared.change.Change.{Change}
use Rattle.step_plan.proofs.Changes.{in_force-nil, in_force-take, in_force-take_more, step_le}
use Rattle.timelines.specs.Passing.{HasCome, HasPassed}

-- none has come
pub passed-none : {X : Type 0} (start : X) (changes : List (Change X)) (t : ℕ) → HasPassed start changes 0 start t
passed-none start changes t = record { stays = λ s from. in_force-nil start s }

-- one more has come
pub passed-more : {X : Type 0} (start : X) (changes : List (Change X)) (k t : ℕ) (d change : Change X) → k < length changes → get_or changes k d ≡ change →
    change.step ≤ t → HasPassed start changes (k + 1) change.value t
passed-more start changes k t d change there is due = record {
  stays = λ s from.
      let now : nat_le (get_or changes k d).step s ≡ true = let step = ap (λ c. c.step) is in grind (arith, nat_tests) in
      let more = rw now at (in_force-take_more start changes k d s there) in
      more ∙ ap (λ c. c.value) is;
}

-- before the next change this is in force
pub come-before : {X : Type 0} (start : X) (changes : List (Change X)) (come : ℕ) (value : X) (until t s : ℕ) → HasCome start changes come value until t →
    t ≤ s → ((c : Change X) → come < length changes → s < (get_or changes come c).step) → in_force start changes s ≡ value
come-before start changes come value until t s has from before =
    let rest : ℕ = length changes - come in
    sym (in_force-take start changes rest come s (omega (arith, has.within))
    (λ k c low within. let later = step_le changes come k c c has.rising low within in omega (arith, before c (omega arith), later)))
    ∙ has.passed.stays s from

-- so at its own step, and at all steps up to `until`
pub come-now : {X : Type 0} (start : X) (changes : List (Change X)) (come : ℕ) (value : X) (until t : ℕ) → HasCome start changes come value until t →
    in_force start changes t ≡ value
come-now start changes come value until t has = come-before start changes come value until t t has (omega arith) has.left

pub come-until : {X : Type 0} (start : X) (changes : List (Change X)) (come : ℕ) (value : X) (until t s : ℕ) → HasCome start changes come value until t →
    t ≤ s → s < until → in_force start changes s ≡ value
come-until start changes come value until t s has from before =
    come-before start changes come value until t s has from (λ c there. let next = has.next c there in omega arith)
