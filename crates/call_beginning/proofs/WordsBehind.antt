-- The words that a program was called with, behind its own name.
use Rattle.std.proofs.Common.{rules, [], ◌≡◌, drop, ◌<◌, length, List, ◌∷◌, ◌++◌, Option, Some, None}
use Rattle.std.specs.Option.{option_to_list, IsSome}

-- What is left of a list behind its first item, if it has one.
pub behind_first : {A : Type 0} (given left : List A) (first : Option A) → given ≡ option_to_list first ++ left → (0 < length given → IsSome first) → left ≡ drop 1 given
behind_first given left (Some x) is has = search rules
behind_first [] left None is has = search rules
behind_first (x ∷ given) left None is has = search rules
