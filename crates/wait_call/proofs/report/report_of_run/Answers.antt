use Rattle.std.proofs.Common.{refl}
use Rattle.wait_call.proofs.report.report_of_run.Goals as goal

pub returns-clause-told : goal.returns-clause-told
returns-clause-told g c = λ done. record {
  cut = c.in_ok-layout.layout.chart.cut;
  own = c.in_ok-layout.ensures.own;
  even = c.in_ok-layout.ensures.even;
  told = rw c.in_ok-layout.ensures.network at (c.in_ok-regions.ensures.told refl);
}
