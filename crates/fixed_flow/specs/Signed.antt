-- The text of an amount that may be negative.
use Rattle.std.specs.Prelude.{ℕ, suc, List, ◌∷◌, ℤ, pos, negsuc}
use Rattle.fixed_flow.specs.Printed.{amount_text}

-- a negative amount has `-` in front
unfoldable pub signed_amount_text : ℤ → List ℕ
signed_amount_text (pos parts) = amount_text parts
signed_amount_text (negsuc parts) = 45 ∷ amount_text (suc parts)
