use Rattle.std.proofs.Common.{refl}
use Rattle.record_fields.specs.FileReading.{records_left}
use Rattle.record_fields.proofs.file_records.open_records.Goals as goal

pub returns-clause-left : goal.returns-clause-left
unfolding records_left
returns-clause-left c = rw (c.from_reader.ensures.source, c.from_reader.ensures.state) refl
