use Rattle.std.proofs.Common.{◌≡◌, ◌++◌, length}
use Rattle.std.specs.List.{flat_map}
use Rattle.converted_file.specs.Converted.{record_line}
use Rattle.record_fields.specs.FileReading.{IsReading, records_left}
use Rattle.converted_file.proofs.conversion.with_lines.Given as goal

-- the text, and then the lines of the records that are left
abbrev pub invariant-loop-text : goal.invariant-loop-text
invariant-loop-text l = record {
  reading : IsReading l.reader;
  whole : l.fn.text.items ++ flat_map record_line (records_left l.initial.reader)
      ≡ l.text.items ++ flat_map record_line (records_left l.reader);
}

-- each turn takes a record
abbrev pub decreases-loop-text : goal.decreases-loop-text
decreases-loop-text l = length (records_left l.reader)
