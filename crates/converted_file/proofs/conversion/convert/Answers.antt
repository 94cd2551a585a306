use Rattle.converted_file.proofs.ConvertedLemmas.{converted-same}
use Rattle.converted_file.proofs.conversion.convert.Goals as goal

pub returns-clause-same : goal.returns-clause-same
returns-clause-same c =
    rw c.in_ok-text_of_records.ensures (converted-same c.args.bytes.now _ c.in_ok-_network.ensures.network)
