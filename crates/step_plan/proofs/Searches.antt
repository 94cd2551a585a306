-- Which element of a list a search finds.
use Rattle.std.specs.Prelude.{Bool, if◌then◌else◌, Option, None, Some, reverse, All}
use Rattle.std.specs.List.{find}
use Rattle.std.specs.Option.{option_map, option_map_or, option_or}
use Rattle.std.proofs.Common.{◌≡◌, true, false, ◌<◌, ◌-◌, List, [], ◌∷◌, ◌++◌, length, arith, refl, ap, ◌∙◌}
use Rattle.std.proofs.lemmas.List.{get_or-reverse, length-reverse, reverse-append}
use Rattle.std.proofs.lemmas.List.Elements.{All-head, All-tail}
use Rattle.std.proofs.lemmas.List.Folds.{find-append}

-- the value of what a search finds, or else the default, has what all of them have
pub find-has : {X Y : Type 0} (P : Y → Type 0) (value : X → Y) (p : X → Bool) (xs : List X) (default : Y) →
    All (λ x. P (value x)) xs → P default → P (option_map_or value (find p xs) default)
find-has P value p [] default each fallback = fallback
find-has P value p (x ∷ xs) default each fallback =
    elim (p x) as (λ b. P (option_map_or value (if b then Some x else find p xs) default)) [
      | true ↦ All-head (λ y. P (value y)) x xs each
      | false ↦ find-has P value p xs default (All-tail (λ y. P (value y)) x xs each) fallback
    ]

pub All-reverse : {X : Type 0} (P : X → Type 0) (xs : List X) → All P xs → All P (reverse xs)
All-reverse P xs each k d within =
    let inside : k < length xs = rw length-reverse at within in
    rw (get_or-reverse xs k d inside) (each (length xs - 1 - k) d (omega arith))

-- what the last element that passes gives, in two lists one after the other
pub last_found-append : {X Y : Type 0} (value : X → Y) (p : X → Bool) (xs ys : List X) →
    option_map value (find p (reverse (xs ++ ys))) ≡
    option_or (option_map value (find p (reverse ys))) (option_map value (find p (reverse xs)))
last_found-append value p xs ys =
    ap (λ all. option_map value (find p all)) (reverse-append xs ys) ∙
    ap (option_map value) (find-append p (reverse ys) (reverse xs)) ∙
    option_map-option_or value (find p (reverse ys)) (find p (reverse xs))
  where
    option_map-option_or : {X Y : Type 0} (f : X → Y) (o p : Option X) →
        option_map f (option_or o p) ≡ option_or (option_map f o) (option_map f p)
    option_map-option_or f None p = refl
    option_map-option_or f (Some x) p = refl
