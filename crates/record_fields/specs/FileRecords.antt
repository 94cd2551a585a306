-- The records of a file, and those that a reader of it has left.
use Rattle.std.specs.Prelude.{ℕ, List, Some}
use Rattle.csv.specs.Reading.{default_config, records, strip_bom}
use Rattle.csv.specs.declared.parser.Config.{Config}

-- comma-separated fields, with `#` before a comment
abbrev pub config : Config
config = record default_config { comment = Some 35 }

-- the records of a file, each a list of fields, and each field a list of bytes
abbrev pub file_records_of : List ℕ → List (List (List ℕ))
file_records_of bytes = records config (strip_bom bytes)
