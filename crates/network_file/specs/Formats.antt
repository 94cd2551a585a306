-- The formats of a file: their headers, the records that each has, and how many of a sort.
use Rattle.std.specs.Prelude.{ℕ, ◌==◌, ◌&&◌, List, Option, Some, None, if◌then◌else◌, bytes_eq, codes, length}
use Rattle.record_fields.specs.Fields.{field}

-- the format that a header names: the two fields `ctm` and `1`, `2` or `3`
unfoldable pub format_of : List (List ℕ) → Option ℕ
format_of header =
    if (length header == 2) && bytes_eq (field header 0) (codes "ctm") then
    if bytes_eq (field header 1) (codes "1") then Some 1
    else if bytes_eq (field header 1) (codes "2") then Some 2
    else if bytes_eq (field header 1) (codes "3") then Some 3
    else None
    else None

-- the most cells, the most connectors, and the most limit, demand, turn and speed records
abbrev pub most_records : (format : ℕ) → ℕ
most_records format = if format == 1 then 100_000 else 200_000
