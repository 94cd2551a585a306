use Rattle.std.proofs.Common.{Some, ap, ◌∙◌}
use Rattle.record_fields.proofs.KindWords.{record_kind_of-Region, record_kind_of-Speed, record_kind_of-Turn}
use Rattle.network_file.proofs.records.read_of_kind.Goals as goal

pub read_turn-requires-clause-second_format : goal.read_turn-requires-clause-second_format
read_turn-requires-clause-second_format c = record_kind_of-Turn c.args.draft.now.format _ (c.requires.of ∙ ap Some c.in-Turn.is)

pub read_region-requires : goal.read_region-requires
read_region-requires c = record_kind_of-Region c.args.draft.now.format _ (c.requires.of ∙ ap Some c.in-Region.is)

pub read_speed-requires-clause-third_format : goal.read_speed-requires-clause-third_format
read_speed-requires-clause-third_format c = record_kind_of-Speed c.args.draft.now.format _ (c.requires.of ∙ ap Some c.in-Speed.is)
