-- The network that a file is, or its first fault.
use Rattle.std.specs.Prelude.{ℕ, ◌+◌, ◌==◌, not, List, [], ◌∷◌, Result, Ok, Err, if◌then◌else◌, nat_le, nat_lt, ok_or, length}
use Rattle.network_file.specs.Draft.{Draft, empty_draft}
use Rattle.record_fields.specs.Checks.{◌>>=◌, ◌>>◌, must}
use Rattle.network_file.specs.Cutting.{has_no_gap}
use Rattle.network_file.specs.Formats.{format_of}
use Rattle.record_fields.specs.Regions.{all_have_regions, region_numbers}
use Rattle.record_fields.specs.FileRecords.{file_records_of}
use Rattle.fixed_flow.specs.Limits.{most_parts}
use Rattle.network_file.specs.Network.{Network, load_of}
use Rattle.network_file.specs.Faults.{fault_at}
use Rattle.network_file.specs.Taking.{take_record}
use Rattle.record_fields.specs.declared.code.Code.{Code}
use Rattle.record_fields.specs.declared.code.Code.TheVariants.{NoHeader, NoSteps, NoCells, TooMuch, NoRegion, RegionGap}
use Rattle.network_file.specs.declared.fault.NetFault.{NetFault}

-- the cutting that the region records of a draft make, or the fault that they have as a whole; without such records the empty list
unfoldable pub cutting_of_draft : Draft → Result (List ℕ) Code
cutting_of_draft draft =
    let cells = length draft.cells in
    let numbers = region_numbers cells draft.regions in
    if length draft.regions == 0 then Ok []
    else if not (all_have_regions cells draft.regions) then Err NoRegion
    else if not (has_no_gap numbers) then Err RegionGap
    else Ok numbers

-- the network of a draft with all records taken, or the fault that they have as a whole
unfoldable pub network_in_all : Draft → Result Network Code
network_in_all draft = do
  steps ← ok_or draft.steps NoSteps
  must (nat_lt 0 (length draft.cells)) NoCells
  must (nat_le (load_of draft.cells draft.plan steps) most_parts) TooMuch
  regions ← cutting_of_draft draft
  Ok (record { format = draft.format; steps = steps; cells = draft.cells; connectors = draft.connectors; plan = draft.plan; regions = regions })

-- the value, or the fault of this code at a place
abbrev pub at_place : {A : Type 0} → (place : ℕ) → Result A Code → Result A NetFault
at_place place (Ok value) = Ok value
at_place place (Err code) = Err (fault_at place code)

-- takes the records from this place on, one after the other; a fault of the file as a whole stands one place behind the last
unfoldable pub read_records : (place : ℕ) → Draft → List (List (List ℕ)) → Result Network NetFault
read_records place draft [] = at_place place (network_in_all draft)
read_records place draft (fields ∷ rest) = do
  more ← at_place place (take_record draft fields)
  read_records (place + 1) more rest

-- the network of a list of records, each a list of fields; the first record is the header
unfoldable pub read_file : List (List (List ℕ)) → Result Network NetFault
read_file [] = Err (fault_at 1 NoHeader)
read_file (header ∷ rest) = do
  format ← at_place 1 (ok_or (format_of header) NoHeader)
  read_records 2 (empty_draft format) rest

-- the network that a file is, or its first fault
unfoldable pub network_of : List ℕ → Result Network NetFault
network_of bytes = read_file (file_records_of bytes)
