use Rattle.cut_grow.proofs.SideTables.{joints-are}
use Rattle.cut_grow.proofs.joints.Joints.of.Goals as goal

pub returns : goal.returns
returns c =
    joints-are c.args.cells c.args.connectors.now c.in_ok-out.out.items c.in_ok-into.into.items c.in_ok-out.ensures c.in_ok-into.ensures c.requires.one_out c.requires.one_in
