-- The text of an amount.
use Rattle.std.specs.Prelude.{ℕ, ◌+◌, ◌/◌, ◌%◌, List, [], ◌∷◌, ◌++◌, map}
use Rattle.std.specs.Fmt.{decimal}
use Rattle.fixed_flow.specs.Limits.{parts_per_vehicle}

-- whole vehicles, a point and six decimals, from the hundred thousands of parts down to the ones
unfoldable pub amount_text : ℕ → List ℕ
amount_text parts =
    decimal (parts / parts_per_vehicle) ++ 46 ∷ map (λ place. 48 + parts / place % 10) (100_000 ∷ 10_000 ∷ 1_000 ∷ 100 ∷ 10 ∷ 1 ∷ [])
