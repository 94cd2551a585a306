-- Lists of which all elements are known.
use Rattle.std.specs.Prelude.{map}
use Rattle.std.specs.List.{Contains, range_with_len}
use Rattle.std.proofs.Common.{◌≡◌, ℕ, suc, ◌<◌, ◌+◌, List, [], ◌∷◌, ◌++◌, length, get_or, refl, sym, ap, ◌∙◌, arith}
use Rattle.std.proofs.lemmas.List.FromFn.{get_or-range_with_len, length-range_with_len}

-- functions that agree on a list's elements give the same list
pub map_same : {X Y : Type 0} (f g : X → Y) (xs : List X) → ((x : X) → Contains xs x → f x ≡ g x) → map f xs ≡ map g xs
map_same f g [] same = refl
map_same f g (x ∷ xs) same =
    let here = same x (0, omega arith, refl) in
    let rest = map_same f g xs (λ y has. same y (suc has.0, omega (arith, has.1), has.2)) in
    cc

pub map_range_same : {Y : Type 0} (f g : ℕ → Y) (n : ℕ) → ((p : ℕ) → p < n → f p ≡ g p) → map f (range_with_len 0 n) ≡ map g (range_with_len 0 n)
map_range_same f g n same = map_same f g (range_with_len 0 n) (λ p has.
    let within : has.0 < n = omega (arith, has.1, length-range_with_len 0 n) in
    let stands : 0 + has.0 ≡ p = sym (get_or-range_with_len 0 n has.0 p within) ∙ has.2 in
    same p (omega (arith, within, stands)))

-- what is pushed stands last
pub pushed-at : {X : Type 0} (xs : List X) (x d : X) (k : ℕ) → k ≡ length xs → get_or (xs ++ x ∷ []) k d ≡ x
pushed-at [] x d k last = ap (λ i. get_or (x ∷ []) i d) last
pushed-at (y ∷ xs) x d k last = ap (λ i. get_or (y ∷ xs ++ x ∷ []) i d) last ∙ pushed-at xs x d (length xs) refl
