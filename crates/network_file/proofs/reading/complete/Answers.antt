use Rattle.std.proofs.Common.{◌≡◌, Ok, rules}
use Rattle.network_file.specs.Reading.{cutting_of_draft}
use Rattle.network_file.proofs.CuttingLemmas.{cutting_of_draft-cutting, cutting_of_draft-none}
use Rattle.network_file.proofs.reading.complete.Goals as goal

pub invariant_of-result : goal.invariant_of-result
invariant_of-result c =
    let made : cutting_of_draft c.args.draft ≡ Ok c.in_ok-regions.regions.items = c.in_ok-regions.ensures.value in
    let cells : c.into_cells.result.items ≡ c.draft.inside.cells = search rules in
    record {
      format = c.draft.invariant.format;
      some_steps = search rules;
      few_steps = search rules;
      some_cells = search rules;
      sound = search rules;
      regions = rw cells (cutting_of_draft-cutting _ c.in_ok-regions.regions.items c.draft.invariant.regions (rw (← c.draft.view_is) at made));
      no_regions = λ first. cutting_of_draft-none _ c.in_ok-regions.regions.items (c.draft.invariant.no_regions first) (rw (← c.draft.view_is) at made);
      load = search rules;
    }
