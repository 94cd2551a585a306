-- What reading a text gives: the amount that it spells, or why there is none.
use Rattle.std.specs.Prelude.{ℕ, List, nat_le, Option, Some, None, Result, Ok, Err, if◌then◌else◌}
use Rattle.fixed_flow.specs.declared.amount.Amount.{Amount}
use Rattle.fixed_flow.specs.declared.amount.AmountFault.{AmountFault}
use Rattle.fixed_flow.specs.declared.amount.AmountFault.TheVariants.{Spelling, Range}
use Rattle.fixed_flow.specs.Limits.{most_parts}
use Rattle.fixed_flow.specs.Spelling.{amount_of}

-- of a text that spells these parts, or none
abbrev pub amount_up_to_most : Option ℕ → Result Amount AmountFault
amount_up_to_most None = Err Spelling
amount_up_to_most (Some parts) = if nat_le parts most_parts then Ok (record { 0 = parts }) else Err Range

abbrev pub read_amount : List ℕ → Result Amount AmountFault
read_amount text = amount_up_to_most (amount_of text)
