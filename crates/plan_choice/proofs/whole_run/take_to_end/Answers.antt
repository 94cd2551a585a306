use Rattle.std.proofs.Common.{◌≡◌, ap, arith, ◌∙◌}
use Rattle.region_cut.specs.Cuttings.{region_count}
use Rattle.region_step.specs.Setup.{SetupValue}
use Rattle.plan_choice.proofs.WholeRun.{halo-none, halo-put, next-stands, stands-number, stands-step}
use Rattle.plan_choice.proofs.whole_run.take_to_end.Goals as goal

pub advance-requires-clause-in_time : goal.advance-requires-clause-in_time
advance-requires-clause-in_time c =
    let steps : c.net.inside.steps ≡ c.layout-layout.result.now.net.steps = ap (λ n. n.steps) (c.net.view_is ∙ c.net-net.ensures.network) in
    omega (arith, stands-step c.args.setup.now c.loop-step._step c.loop-step.region c.loop-step.invariant.stands, c.loop-step-test.true, steps)

pub advance-requires-clause-halo : goal.advance-requires-clause-halo
advance-requires-clause-halo c =
    let one = ap (λ chart. region_count chart.cut) c.layout-layout.ensures.chart ∙ c.requires.one in
    halo-put c.layout-layout.result.now.net c.layout-layout.result.now.chart c.loop-step.region.state
    (stands-number c.args.setup.now c.loop-step._step c.loop-step.region c.loop-step.invariant.stands) (halo-none c.layout-layout.result.now.chart c.regions-regions.ensures.sound one)

pub loop-step-preserved : goal.loop-step-preserved
loop-step-preserved c =
    let setup : SetupValue = c.args.setup.now in
    let sound = rw c.layout-layout.ensures.chart at c.regions-regions.ensures.sound in
    record {
      stands = next-stands setup c.loop-step._step c.loop-step.region c.advance.new.self (halo-none setup.chart sound c.requires.one) (omega (arith, c.requires.zero)) c.loop-step.invariant.stands
          (rw (c.layout-layout.ensures.network, c.layout-layout.ensures.chart) at c.advance.ensures.opened)
          (rw (c.layout-layout.ensures.network, c.layout-layout.ensures.chart) at c.advance.ensures.grid);
      in_bounds = rw (c.layout-layout.ensures.network, c.layout-layout.ensures.chart) at c.advance.ensures.bounds;
    }
