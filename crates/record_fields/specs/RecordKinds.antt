-- The kinds of record: the word of each, and how many fields it has.
use Rattle.std.specs.Prelude.{ℕ, ◌&&◌, List, Option, Some, None, if◌then◌else◌, bytes_eq, codes, nat_le}
use Rattle.record_fields.specs.declared.record_kind.RecordKind.{RecordKind}
use Rattle.record_fields.specs.declared.record_kind.RecordKind.TheVariants.{Steps, Road, Gate, Exit, Link, Merge, Diverge, Signal, Limit, Demand, Turn, Region, Speed}

-- the kind that a first field names; turns and regions are kinds from format 2 on, speeds of format 3
unfoldable pub record_kind_of : (format : ℕ) → List ℕ → Option RecordKind
record_kind_of format text =
    if bytes_eq text (codes "steps") then Some Steps
    else if bytes_eq text (codes "road") then Some Road
    else if bytes_eq text (codes "gate") then Some Gate
    else if bytes_eq text (codes "exit") then Some Exit
    else if bytes_eq text (codes "link") then Some Link
    else if bytes_eq text (codes "merge") then Some Merge
    else if bytes_eq text (codes "diverge") then Some Diverge
    else if bytes_eq text (codes "signal") then Some Signal
    else if bytes_eq text (codes "limit") then Some Limit
    else if bytes_eq text (codes "demand") then Some Demand
    else if bytes_eq text (codes "turn") && nat_le 2 format then Some Turn
    else if bytes_eq text (codes "region") && nat_le 2 format then Some Region
    else if bytes_eq text (codes "speed") && nat_le 3 format then Some Speed
    else None

-- how many fields a record has, the kind among them
abbrev pub field_count : RecordKind → ℕ
field_count Steps = 2
field_count Road = 7
field_count Gate = 4
field_count Exit = 3
field_count Link = 3
field_count Merge = 6
field_count Diverge = 6
field_count Signal = 6
field_count Limit = 5
field_count Demand = 5
field_count Turn = 6
field_count Region = 3
field_count Speed = 6
