-- What stands at the front of a text, and what follows it.
use Rattle.std.specs.Prelude.{ℕ, List, bytes_eq, codes, drop, length, take, Option, Some, None, if◌then◌else◌}
use Rattle.std.specs.Char.{is_ascii_digit}
use Rattle.std.specs.List.{prefix_len}
use Rattle.fixed_flow.specs.Sequence.{◌>>=◌}
use Rattle.saved_run.specs.Numbers.{number_of}
use Rattle.saved_run.specs.declared.row_line.RowLine.{RowLine}

-- what was read, and what follows it
pub record Front (A : Type 0) : Type 0 where
  pub value : A
  pub rest : List ℕ

-- what follows a word
unfoldable pub behind : (word : List ℕ) → List ℕ → Option (List ℕ)
behind word text = if bytes_eq (take (length word) text) word then Some (drop (length word) text) else None

-- a comma and a number: all the digits that follow
unfoldable pub field_at : List ℕ → Option (Front ℕ)
field_at text = do
  field ← behind (codes ",") text
  number ← number_of (take (prefix_len is_ascii_digit field) field)
  Some (record { value = number; rest = drop (prefix_len is_ascii_digit field) field })

-- a line of a word and a count
unfoldable pub counted_line_at : (word : List ℕ) → List ℕ → Option (Front ℕ)
counted_line_at word text = do
  fields ← behind word text
  count ← field_at fields
  rest ← behind (codes "\n") count.rest
  Some (record { value = count.value; rest = rest })

-- a row line
unfoldable pub row_line_at : List ℕ → Option (Front RowLine)
row_line_at text = do
  fields ← behind (codes "row") text
  region ← field_at fields
  n ← field_at region.rest
  come ← field_at n.rest
  gone ← field_at come.rest
  wait ← field_at gone.rest
  earlier ← field_at wait.rest
  rest ← behind (codes "\n") earlier.rest
  Some (record {
    value = record {
      region = region.value;
      row = record { n = n.value; come = come.value; gone = gone.value; wait = wait.value };
      earlier = earlier.value;
    };
    rest = rest;
  })
