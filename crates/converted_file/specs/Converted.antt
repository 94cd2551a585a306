-- A file written again, which says the same: in format 3 where that is its own, and else in format 2.
use Rattle.std.specs.Prelude.{ℕ, List, [], ◌∷◌, ◌++◌, bytes_eq, codes, drop, if◌then◌else◌}
use Rattle.std.specs.List.{flat_map}
use Rattle.record_fields.specs.Fields.{field}
use Rattle.record_fields.specs.FileRecords.{file_records_of}

-- fields with commas between them
abbrev pub joined : List (List ℕ) → List ℕ
joined [] = []
joined (field ∷ []) = field
joined (field ∷ more ∷ rest) = field ++ (codes "," ++ joined (more ∷ rest))

-- a record as a line
abbrev pub record_line : List (List ℕ) → List ℕ
record_line fields = joined fields ++ codes "\n"

-- the header of these records written again: that of format 3 where they have it, and else that of format 2
abbrev pub header_line : List (List (List ℕ)) → List ℕ
header_line [] = codes "ctm,2\n"
header_line (header ∷ rest) = if bytes_eq (field header 1) (codes "3") then codes "ctm,3\n" else codes "ctm,2\n"

-- that header, and then each later record of the file as a line
unfoldable pub converted : List ℕ → List ℕ
converted bytes = header_line (file_records_of bytes) ++ flat_map record_line (drop 1 (file_records_of bytes))
