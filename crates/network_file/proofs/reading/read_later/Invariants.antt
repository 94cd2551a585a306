use Rattle.std.proofs.Common.{◌≡◌, ◌≤◌, ◌+◌, length}
use Rattle.record_fields.specs.FileReading.{IsReading, records_left}
use Rattle.network_file.specs.Limits.{most_bytes}
use Rattle.network_file.specs.Reading.{read_records}
use Rattle.network_file.proofs.reading.read_later.Given as goal

-- the records are what the draft and those that are left give, and there are few of these
abbrev pub invariant-loop-draft : goal.invariant-loop-draft
invariant-loop-draft l = record {
  reading : IsReading l.records;
  same : read_records 2 l.fn.draft (records_left l.initial.records)
      ≡ read_records l.place l.draft (records_left l.records);
  few : l.place + length (records_left l.records) ≤ most_bytes + 2;
}

-- each turn takes a record
abbrev pub decreases-loop-draft : goal.decreases-loop-draft
decreases-loop-draft l = length (records_left l.records)
