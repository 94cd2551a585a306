-- How long a saved text is at most.
use Rattle.std.specs.Prelude.{ℕ, ◌+◌, ◌*◌}
use Rattle.network_file.specs.Formats.{most_records}
use Rattle.network_file.specs.Limits.{most_bytes, most_regions}

-- `step,s`, where s has 20 digits
abbrev pub most_step_line : ℕ
most_step_line = 26

-- `row,region,n,come,gone,wait,earlier`, where the region has 3 digits and each of the others 20
abbrev pub most_row_line : ℕ
most_row_line = 113

-- `saved,1,512`, a line for each of 512 regions and of 200,000 cells, `net`, and the longest file: 39,390,544 bytes
abbrev pub most_saved : ℕ
most_saved = 12 + most_regions * most_step_line + most_records 2 * most_row_line + 4 + most_bytes
