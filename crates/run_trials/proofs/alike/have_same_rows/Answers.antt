use Rattle.std.proofs.Common.{ap, arith, length, subst, ◌∙◌}
use Rattle.network_file.specs.Sound.{IsNetwork}
use Rattle.region_cut.specs.Chart.{list_at}
use Rattle.region_step.proofs.Ground.{ground}
use Rattle.run_trials.proofs.alike.have_same_rows.Goals as goal

pub overflow_cast-i : goal.overflow_cast-i
overflow_cast-i c =
    let here = ground c.args.layout.now.net c.args.layout.now.chart.cut c.args.layout.now.chart c.args.region.now.state.number (subst IsNetwork (c.net.view_is ∙ c.net-net.ensures.network) c.net.invariant)
    c.requires.opened.charted c.requires.opened.one_of.there in
    omega (arith, c.loop-i-test.true, ap length c.cells-cells.ensures.list, ap (λ r. length (list_at c.args.layout.now.chart.cells r)) c.number.ensures, here.few)
