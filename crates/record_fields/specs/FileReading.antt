-- How a file is read, record by record.
use Rattle.std.specs.Prelude.{◌≡◌, ℕ, ◌+◌, List, [], Option, Some, None, true, false, length}
use Rattle.std.specs.Borrow.{Bor}
use Rattle.csv.specs.Machine.{ends_at_end}
use Rattle.csv.specs.Reading.{Ready, is_flexible, reader_config, reader_state, reader_trim, records_from, source_of}
use Rattle.csv.specs.declared.reader.Reader.{Reader}
use Rattle.csv.specs.declared.reader.Trim.TheVariants as trim
use Rattle.csv.specs.declared.parser.State.{State}
use Rattle.record_fields.specs.FileRecords.{config}

-- the records that are left of known bytes
abbrev pub records_in : State → Option (List ℕ) → List (List (List ℕ))
records_in state None = []
records_in state (Some bytes) = records_from config (length bytes + 1) state bytes

abbrev pub bytes_of : Bor (List ℕ) → Option (List ℕ)
bytes_of source = Some source.now

-- the records that a reader of bytes has left
unfoldable pub records_left : Reader (Bor (List ℕ)) → List (List (List ℕ))
records_left reader = records_in (reader_state reader) (source_of bytes_of reader)

-- the reader stands between two records of bytes that are known
pub record IsReading (reader : Reader (Bor (List ℕ))) : Type 0 where
  pub plain : reader_trim reader ≡ trim.None
  -- records of any number of fields
  pub flexible : is_flexible reader ≡ true
  pub ready : Ready reader
  pub format : reader_config reader ≡ config
  pub known : (bytes : List ℕ) × (source_of bytes_of reader ≡ Some bytes)
  pub between : ends_at_end (reader_state reader) ≡ false
