-- Checks that are made in order: the first that fails is the answer.
use Rattle.std.specs.Prelude.{Bool, true, false, Result, Ok, Err}

infixl 10 ◌>>=◌
abbrev pub ◌>>=◌ : {A B E : Type 0} → Result A E → (A → Result B E) → Result B E
Ok a >>= f = f a
Err fault >>= f = Err fault

infixl 10 ◌>>◌
abbrev pub ◌>>◌ : {A B E : Type 0} → Result A E → Result B E → Result B E
Ok a >> next = next
Err fault >> next = Err fault

-- the test must be true, and else the answer is this fault
abbrev pub must : {E : Type 0} → Bool → E → Result (Unit {0}) E
must true fault = Ok tt
must false fault = Err fault
