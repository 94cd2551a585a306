-- Checks that are made in order: what it says that all were passed, and how to pass them again.
use Rattle.std.proofs.Common.{◌≡◌, ◌∙◌, Bool, true, false, Ok, Err, Some, None, refl, ap}
use Rattle.std.specs.Prelude.{Option, Result, ok_or}
use Rattle.record_fields.specs.Checks.{◌>>=◌, ◌>>◌, must}

-- the first of two steps, and what follows from its value
pub bind-ok : {A B E : Type 0} (m : Result A E) (f : A → Result B E) (b : B) → (m >>= f) ≡ Ok b → (a : A) × ((m ≡ Ok a) × (f a ≡ Ok b))
bind-ok (Ok a) f b taken = (a, (refl, taken))
bind-ok (Err fault) f b taken = cc taken

-- a test that was passed, and what follows
pub must-ok : {B E : Type 0} (test : Bool) (fault : E) (next : Result B E) (b : B) → (must test fault >> next) ≡ Ok b → (test ≡ true) × (next ≡ Ok b)
must-ok true fault next b taken = (refl, taken)
must-ok false fault next b taken = cc taken

-- two steps, by the value of the first
pub bind-as : {A B E : Type 0} (m : Result A E) (f : A → Result B E) (a : A) (r : Result B E) → m ≡ Ok a → f a ≡ r → (m >>= f) ≡ r
bind-as m f a r value rest = ap (λ m. m >>= f) value ∙ rest

-- a test that is passed, and what follows
pub must-as : {B E : Type 0} (test : Bool) (fault : E) (next r : Result B E) → test ≡ true → next ≡ r → (must test fault >> next) ≡ r
must-as test fault next r passed rest = ap (λ test. must test fault >> next) passed ∙ rest

-- what is there is no fault
pub ok_or-some : {A E : Type 0} (o : Option A) (fault : E) (a : A) → ok_or o fault ≡ Ok a → o ≡ Some a
ok_or-some (Some a) fault b taken = ap Some (cc taken)
ok_or-some None fault b taken = cc taken
