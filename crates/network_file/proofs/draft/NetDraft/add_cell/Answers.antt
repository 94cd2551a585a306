use Rattle.std.proofs.Common.{rules, ◌≡◌, ◌++◌, ◌∷◌, []}
use Rattle.step_plan.specs.Records.{with_cell}
use Rattle.network_file.proofs.SoundLemmas.{HasSoundParts-add_cell, regions-add_cell}
use Rattle.network_file.proofs.draft.NetDraft.add_cell.Goals as goal

pub invariant_of-result : goal.invariant_of-result
invariant_of-result c =
    let draft = c.self.inside in
    let cells : c.in_ok-cells.cells ≡ draft.cells ++ c.args.cell ∷ [] = search rules in
    let plan : c.put_cell.new.self ≡ with_cell draft.plan.value c.args.capacity = search rules in
    let fits = rw (← c.self.view_is) at c.requires in
    record {
      format = c.self.invariant.format;
      some_steps = c.self.invariant.some_steps;
      few_steps = c.self.invariant.few_steps;
      sound = rw (cells, plan) (HasSoundParts-add_cell draft.format draft.cells draft.connectors draft.plan.value c.args.cell c.args.capacity c.self.invariant.sound fits.room
          fits.fresh fits.sound fits.low);
      regions = rw cells (regions-add_cell draft.cells c.args.cell draft.regions c.self.invariant.regions);
      no_regions = c.self.invariant.no_regions;
    }
