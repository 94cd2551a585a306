use Rattle.std.proofs.Common.{rules, ◌≡◌, ◌++◌, ◌∷◌, []}
use Rattle.network_file.proofs.SoundLemmas.{HasSoundParts-add_connector}
use Rattle.network_file.proofs.draft.NetDraft.add_connector.Goals as goal

pub invariant_of-result : goal.invariant_of-result
invariant_of-result c =
    let draft = c.self.inside in
    let connectors : c.in_ok-connectors.connectors ≡ draft.connectors ++ c.args.connector ∷ [] = search rules in
    let fits = rw (← c.self.view_is) at c.requires in
    record {
      format = c.self.invariant.format;
      some_steps = c.self.invariant.some_steps;
      few_steps = c.self.invariant.few_steps;
      sound = rw connectors (HasSoundParts-add_connector draft.format draft.cells draft.connectors draft.plan.value c.args.connector c.self.invariant.sound fits.room
          fits.sound fits.up_free fits.down_free);
      regions = c.self.invariant.regions;
      no_regions = c.self.invariant.no_regions;
    }
