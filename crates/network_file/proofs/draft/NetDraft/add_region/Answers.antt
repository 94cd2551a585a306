use Rattle.std.proofs.Common.{rules, arith, ◌≡◌, ◌++◌, ◌∷◌, []}
use Rattle.network_file.proofs.SoundLemmas.{regions-add_region}
use Rattle.network_file.proofs.draft.NetDraft.add_region.Goals as goal

pub invariant_of-result : goal.invariant_of-result
invariant_of-result c =
    let draft = c.self.inside in
    let regions : c.in_ok-regions.regions ≡ draft.regions ++ c.args.region ∷ [] = search rules in
    let fits = rw (← c.self.view_is) at c.requires in
    record {
      format = c.self.invariant.format;
      some_steps = c.self.invariant.some_steps;
      few_steps = c.self.invariant.few_steps;
      sound = c.self.invariant.sound;
      regions = rw regions (regions-add_region draft.cells draft.regions c.args.region fits.there fits.few c.self.invariant.regions);
      no_regions = λ first. absurd (omega (arith, first, fits.second_format));
    }
