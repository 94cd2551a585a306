use Rattle.std.proofs.Common.{◌≡◌, ◌<◌, arith, ap, sym}
use Rattle.delay_report.proofs.RecordedSteps.{recorded_count-is, recorded_count-most, recorded_count-never}
use Rattle.delay_report.proofs.step_count.recorded_steps.Goals as goal

pub returns-then-every-eq0-clause-count : goal.returns-then-every-eq0-clause-count
returns-then-every-eq0-clause-count c = sym (recorded_count-never c.args.net.now.steps c.args.every c.if-every-eq0.true)

pub returns-else-every-eq0-clause-count : goal.returns-else-every-eq0-clause-count
returns-else-every-eq0-clause-count c =
    let some : 0 < c.args.every = omega (arith, c.if-every-eq0.false) in
    let same : c.net.inside.steps ≡ c.args.net.now.steps = ap (λ net. net.steps) c.net.view_is in
    omega (arith, rw same at c.div_ceil.ensures, recorded_count-is c.args.net.now.steps c.args.every some)

pub returns-else-every-eq0-clause-few : goal.returns-else-every-eq0-clause-few
returns-else-every-eq0-clause-few c =
    let some : 0 < c.args.every = omega (arith, c.if-every-eq0.false) in
    let same : c.net.inside.steps ≡ c.args.net.now.steps = ap (λ net. net.steps) c.net.view_is in
    omega (arith, rw same at c.div_ceil.ensures, recorded_count-is c.args.net.now.steps c.args.every some, recorded_count-most c.args.net.now.steps c.args.every)
