-- The fields of a record, and what each sort of number says.
use Rattle.std.specs.Prelude.{ℕ, ◌+◌, ◌-◌, List, [], ◌&&◌, Result, Ok, ok_or, get_or, nat_le}
use Rattle.fixed_flow.specs.Spelling.{amount_of, whole_of}
use Rattle.record_fields.specs.Checks.{◌>>=◌, ◌>>◌, must}
use Rattle.record_fields.specs.declared.code.Code.{Code}
use Rattle.record_fields.specs.declared.code.Code.TheVariants.{BadNumber, OutOfRange}

-- the field at a place, counted from 0
abbrev pub field : List (List ℕ) → ℕ → List ℕ
field fields i = get_or fields i []

-- a whole number from `low` to `high`
unfoldable pub whole_within : (low high : ℕ) → List ℕ → Result ℕ Code
whole_within low high text = do
  n ← ok_or (whole_of text) BadNumber
  must (nat_le low n && nat_le n high) OutOfRange
  Ok n

-- a range `[from, to)` of one step at least, in which `to` is at most `most`, from the fields of `from` and `to`
unfoldable pub range_within : (most : ℕ) → (first last : List ℕ) → Result (ℕ × ℕ) Code
range_within most first last = do
  from ← whole_within 0 (most - 1) first
  to ← whole_within (from + 1) most last
  Ok (from, to)

-- a ratio A/B of at most 1 with numbers from 1 to `most`, from the fields of A and B
unfoldable pub ratio : (most : ℕ) → (first second : List ℕ) → Result (ℕ × ℕ) Code
ratio most first second = do
  num ← whole_within 1 most first
  den ← whole_within num most second
  Ok (num, den)

-- two weights from 1 to `most`, from their two fields: the priorities of a merge or the shares of a diverge
unfoldable pub weights : (most : ℕ) → (first second : List ℕ) → Result (ℕ × ℕ) Code
weights most first second = do
  weight1 ← whole_within 1 most first
  weight2 ← whole_within 1 most second
  Ok (weight1, weight2)

-- an amount in parts, up to the greatest
unfoldable pub amount_within : (most : ℕ) → List ℕ → Result ℕ Code
amount_within most text = do
  n ← ok_or (amount_of text) BadNumber
  must (nat_le n most) OutOfRange
  Ok n
