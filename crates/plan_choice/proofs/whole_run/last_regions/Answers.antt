use Rattle.std.proofs.Common.{arith}
use Rattle.plan_choice.proofs.WholeRun.{one-come}
use Rattle.plan_choice.proofs.whole_run.last_regions.Goals as goal

pub returns : goal.returns
returns c =
    rw (c.in_ok-push.ensures.items, c.new-regions.ensures.items)
    (one-come c.args.setup.now c.args.setup.now.net.steps _ c.requires.one (omega (arith, c.requires.zero)) c.take_to_end.ensures)
