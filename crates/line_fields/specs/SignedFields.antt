-- The field of an amount that may be negative.
use Rattle.std.specs.Prelude.{ℕ, List, ◌++◌, ℤ, codes}
use Rattle.fixed_flow.specs.Signed.{signed_amount_text}

-- a comma and an amount that may be negative
abbrev pub signed_field : ℤ → List ℕ
signed_field parts = codes "," ++ signed_amount_text parts
