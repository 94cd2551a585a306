use Rattle.csv.specs.Records.{fields_of}
use Rattle.record_fields.proofs.RecordLemmas.{records_left-next, records_left-end, stops_reader-flexible}
use Rattle.record_fields.proofs.file_records.next_fields.Goals as goal

pub returns-in-Ok-clause-reading : goal.returns-in-Ok-clause-reading
returns-in-Ok-clause-reading c = λ found.
    let read = rw found at (c.in-Ok.ensures.reads c.requires.plain c.requires.ready) in
    (records_left-next c.args.reader.now c.read_byte_record.new.self (fields_of c.read_byte_record.new.row) c.requires read (c.in-Ok.ensures.ready c.requires.plain) c.in-Ok.ensures.flexible).1

pub returns-in-Ok-clause-found : goal.returns-in-Ok-clause-found
returns-in-Ok-clause-found c = λ found.
    let read = rw found at (c.in-Ok.ensures.reads c.requires.plain c.requires.ready) in
    (records_left-next c.args.reader.now c.read_byte_record.new.self (fields_of c.read_byte_record.new.row) c.requires read (c.in-Ok.ensures.ready c.requires.plain) c.in-Ok.ensures.flexible).0

pub returns-in-Ok-clause-end : goal.returns-in-Ok-clause-end
returns-in-Ok-clause-end c = λ none.
    let read = rw none at (c.in-Ok.ensures.reads c.requires.plain c.requires.ready) in
    records_left-end c.args.reader.now c.read_byte_record.new.self (fields_of c.read_byte_record.new.row) c.requires read

pub out_of_memory-requires : goal.out_of_memory-requires
out_of_memory-requires c =
    stops_reader-flexible c.args.reader.now c.read_byte_record.new.self c.in-Err.error.kind c.requires.flexible
    (c.in-Err.ensures.why c.requires.ready)
