-- What a byte order mark is at the start of a text.
use Rattle.std.proofs.Common.{ℕ, ◌≡◌, ◌≤◌, Bool, true, false, List, [], ◌∷◌, arith, drop, length, refl}
use Rattle.std.specs.Prelude.{slice_index}
use Rattle.std.proofs.lemmas.Bool.Decides.{nat_tests}
use Rattle.csv.specs.Reading.{is_bom, strip_bom}

pub strip_bom-marked : (text : List ℕ) → 3 ≤ length text → slice_index text 0 ≡ 239 → slice_index text 1 ≡ 187 → slice_index text 2 ≡ 191 → drop 3 text ≡ strip_bom text
unfolding strip_bom
strip_bom-marked [] long a b c = absurd (omega (arith, long))
strip_bom-marked (x ∷ []) long a b c = absurd (omega (arith, long))
strip_bom-marked (x ∷ y ∷ []) long a b c = absurd (omega (arith, long))
strip_bom-marked (x ∷ y ∷ z ∷ rest) long a b c = rw (a, b, c) refl

pub strip_bom-unmarked : (text : List ℕ) → (3 ≤ length text → slice_index text 0 ≡ 239 → slice_index text 1 ≡ 187 → slice_index text 2 ≡ 191 → ⊥) → text ≡ strip_bom text
unfolding strip_bom
strip_bom-unmarked [] other = refl
strip_bom-unmarked (x ∷ []) other = refl
strip_bom-unmarked (x ∷ y ∷ []) other = refl
strip_bom-unmarked (x ∷ y ∷ z ∷ rest) other = by (is_bom x y z) refl
  where
    by : (b : Bool) → is_bom x y z ≡ b → x ∷ y ∷ z ∷ rest ≡ strip_bom (x ∷ y ∷ z ∷ rest)
    by true e = absurd (other (omega arith) (grind (arith, nat_tests, e)) (grind (arith, nat_tests, e)) (grind (arith, nat_tests, e)))
    by false e = rw e refl
