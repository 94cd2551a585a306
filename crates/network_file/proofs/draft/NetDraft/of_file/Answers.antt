use Rattle.std.proofs.Common.{◌≡◌, [], rules}
use Rattle.network_file.proofs.SoundDrafts.{empty_draft-sound}
use Rattle.network_file.proofs.draft.NetDraft.of_file.Goals as goal

pub invariant_of-result : goal.invariant_of-result
invariant_of-result c =
    let plan : c.in_ok-plan.plan.value ≡ record { cells = [] } = search rules in
    rw (c.in_ok-cells.ensures, c.in_ok-connectors.ensures, plan, c.in_ok-regions.ensures) (empty_draft-sound c.args.format c.requires.known)
