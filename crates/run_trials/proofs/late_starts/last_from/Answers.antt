use Rattle.std.specs.Prelude.{slice_index}
use Rattle.std.proofs.Common.{◌≡◌, ◌≤◌, ap, arith, ◌∙◌}
use Rattle.region_cut.specs.Cuttings.{region_count}
use Rattle.region_step.specs.Setup.{SetupValue}
use Rattle.run_trials.proofs.late_starts.last_from.Goals as goal

pub regions_from-requires-clause-before : goal.regions_from-requires-clause-before
regions_from-requires-clause-before g c = λ lifetimes outlive r within.
    let start = c.args.start in
    let lawful = c.requires.lawful in
    let count = ap (λ (setup : SetupValue). region_count setup.chart.cut) c.new-setup.ensures in
    let begun = ap (λ (setup : SetupValue). slice_index setup.start.steps r) c.new-setup.ensures in
    let in_time : slice_index start.steps r ≤ c.args.layout.net.steps = lawful.in_time r 0 (omega (arith, within, count, lawful.one_each)) in
    let last : c.net.inside.steps ≡ c.args.layout.net.steps = ap (λ net. net.steps) (c.net.view_is ∙ c.net-net.ensures.network) in
    omega (arith, in_time, last, begun)
