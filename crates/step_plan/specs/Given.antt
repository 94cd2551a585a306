-- What records give together.
use Rattle.std.specs.Prelude.{ℕ, Bool, if◌then◌else◌, List, [], ◌∷◌}

-- what the records give in step t together: what the first gives, if it speaks of the step, joined with what the later ones give
abbrev pub given_by : {R X : Type 0} → (none : X) → (joined : X → X → X) → (speaks : R → ℕ → Bool) → (gives : R → X) → List R → (t : ℕ) → X
given_by none joined speaks gives [] t = none
given_by none joined speaks gives (r ∷ rs) t =
    joined (if speaks r t then gives r else none) (given_by none joined speaks gives rs t)
