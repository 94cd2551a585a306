-- Lists of which a function makes the same.
use Rattle.std.specs.Prelude.{map}
use Rattle.std.specs.List.{sum_by}
use Rattle.std.proofs.Common.{◌≡◌, ℕ, ◌<◌, List, [], ◌∷◌, length, get_or, refl, sym, ap, ◌∙◌, arith}
use Rattle.std.proofs.lemmas.List.{ext_get_or, get_or-map, length-map, nil_from_length}
use Rattle.std.proofs.lemmas.List.Sums.{sum_by-cons}

-- they agree item by item
pub map-same : {X : Type 0} (f : X → ℕ) (old new : List X) → length new ≡ length old →
    ((k : ℕ) (d : X) → k < length old → f (get_or new k d) ≡ f (get_or old k d)) → map f new ≡ map f old
map-same f [] new long same = ap (map f) (nil_from_length new (omega arith))
map-same f (x ∷ xs) new long same =
    ext_get_or 0 (map f new) (map f (x ∷ xs)) (length-map new f ∙ long ∙ sym (length-map (x ∷ xs) f))
    (λ k lt.
    let within : k < length (x ∷ xs) = omega (arith, length-map new f) in
    get_or-map f new k x 0 (omega arith) ∙ same k x within ∙ sym (get_or-map f (x ∷ xs) k x 0 within))

pub sum_by-map : {X : Type 0} (f : ℕ → ℕ) (g : X → ℕ) (xs : List X) → sum_by (λ x. f (g x)) xs ≡ sum_by f (map g xs)
sum_by-map f g [] = refl
sum_by-map f g (x ∷ xs) =
    omega (arith, sum_by-cons (λ x. f (g x)) x xs, sum_by-cons f (g x) (map g xs), sum_by-map f g xs)
