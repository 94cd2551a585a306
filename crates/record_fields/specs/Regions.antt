-- The region records of a file, and the cutting that they make.
use Rattle.std.specs.Prelude.{ℕ, ◌==◌, Bool, List, Option, is_some, map, unwrap_or}
use Rattle.std.specs.List.{find, list_all, range_with_len}
use Rattle.std.specs.Option.{option_map}
use Rattle.record_fields.specs.declared.region_record.RegionRecord.{RegionRecord}

-- the number of the region of a cell, where a record gave it one
abbrev pub region_in : List RegionRecord → (cell : ℕ) → Option ℕ
region_in regions cell = option_map (λ region. region.number) (find (λ region. region.cell == cell) regions)

-- whether each of so many cells has a region
abbrev pub all_have_regions : (cells : ℕ) → List RegionRecord → Bool
all_have_regions cells regions = list_all (λ cell. is_some (region_in regions cell)) (range_with_len 0 cells)

-- the number of each cell's region
abbrev pub region_numbers : (cells : ℕ) → List RegionRecord → List ℕ
region_numbers cells regions = map (λ cell. unwrap_or (region_in regions cell) 0) (range_with_len 0 cells)
