use Rattle.std.specs.Prelude.{slice_index}
use Rattle.std.proofs.Common.{◌≡◌, ◌≤◌, ap, arith, subst, sym, ◌∙◌}
use Rattle.region_cut.specs.Cuttings.{region_count}
use Rattle.region_step.specs.Regions.{AreAt}
use Rattle.region_step.specs.Setup.{SetupValue}
use Rattle.ctm.proofs.run.Run.resumed.Goals as goal

pub regions_from-requires-clause-before : goal.regions_from-requires-clause-before
regions_from-requires-clause-before g c = λ lifetimes outlive r within.
    let start = c.args.start in
    let lawful = c.requires.can_start.lawful in
    let count = ap (λ (setup : SetupValue). region_count setup.chart.cut) c.new-setup.ensures in
    let begun = ap (λ (setup : SetupValue). slice_index setup.start.steps r) c.new-setup.ensures in
    let in_time : slice_index start.steps r ≤ c.args.layout.net.steps = lawful.in_time r 0 (omega (arith, within, count, lawful.one_each)) in
    let last : c.net.inside.steps ≡ c.args.layout.net.steps = ap (λ net. net.steps) (c.net.view_is ∙ c.net-net.ensures.network) in
    omega (arith, in_time, last, begun)

pub at_last-requires : goal.at_last-requires
at_last-requires g c =
    let is = c.in_ok-regions.ensures.setup ∙ c.new-setup.ensures in
    let last : c.net.inside.steps ≡ c.args.layout.net.steps = ap (λ net. net.steps) (c.net.view_is ∙ c.net-net.ensures.network) in
    record {
      last = subst (AreAt c.in_ok-regions.regions) (last ∙ sym (ap (λ (setup : SetupValue). setup.net.steps) is)) c.in_ok-regions.ensures.at;
      from_zero = λ some. absurd (some (ap (λ (setup : SetupValue). setup.every) is));
    }
