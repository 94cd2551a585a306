use Rattle.converted_file.proofs.JoinedLemmas.{converted-by}
use Rattle.converted_file.proofs.conversion.text_of_records.Goals as goal

pub returns : goal.returns
returns c = rw (converted-by c.args.bytes.now _ c.open_records-reader.ensures.left) c.text_read.ensures
