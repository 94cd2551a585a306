use Rattle.std.proofs.Common.{rules, ◌≡◌}
use Rattle.step_plan.specs.Adding.{with_record}
use Rattle.network_file.proofs.SoundLemmas.{HasSoundParts-add_record, has_room}
use Rattle.network_file.proofs.draft.NetDraft.add_record.Goals as goal

pub put-requires-clause-room : goal.put-requires-clause-room
put-requires-clause-room c =
    let same : c.deref_mut.result.now ≡ c.args.self.plan = search rules in
    rw same (has_room c.args.self c.args.cell c.args.one c.requires.kind)

pub invariant_of-result : goal.invariant_of-result
invariant_of-result c =
    let draft = c.self.inside in
    let plan : c.put.new.self ≡ with_record draft.plan.value c.args.cell c.args.one = search rules in
    let fits = rw (← c.self.view_is) at c.requires in
    record {
      format = c.self.invariant.format;
      some_steps = c.self.invariant.some_steps;
      few_steps = c.self.invariant.few_steps;
      sound = rw plan (HasSoundParts-add_record _ c.args.cell c.args.one c.self.invariant.sound fits);
      regions = c.self.invariant.regions;
      no_regions = c.self.invariant.no_regions;
    }
