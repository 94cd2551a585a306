use Rattle.std.proofs.Common.{◌≤◌, ◌+◌, arith, ap, ◌∙◌}
use Rattle.network_file.specs.Cutting.{greatest}
use Rattle.network_file.specs.Limits.{most_regions}
use Rattle.region_cut.proofs.Cuttings.{greatest-below}
use Rattle.region_cut.proofs.cut.Cut.count.Goals as goal

pub overflow_add-result : goal.overflow_add-result
overflow_add-result c =
    let below : greatest c.self.inside.regions.items + 1 ≤ most_regions = greatest-below _ most_regions (omega arith) c.self.invariant.few in
    omega (arith, below, c.greatest.ensures ∙ ap greatest c.deref.ensures.value)

pub returns-clause-few : goal.returns-clause-few
returns-clause-few c =
    let below : greatest c.self.inside.regions.items + 1 ≤ most_regions = greatest-below _ most_regions (omega arith) c.self.invariant.few in
    omega (arith, below, c.greatest.ensures ∙ ap greatest c.deref.ensures.value)
