use Rattle.std.proofs.Common.{◌∙◌, arith}
use Rattle.flow_model.proofs.Carrying.{begun, ended, enters, leaves, two_carries, two_held}
use Rattle.flow_model.proofs.step.carry_link.Goals as goal

pub flow-carried-requires-clause-held : goal.flow-carried-requires-clause-held
flow-carried-requires-clause-held c =
    two_held c.args.net.now c.args.t c.args.k c.args.cells c.args.old.now c.requires.sound c.requires.has_connector
    c.requires.in_bounds c.requires.cells c.requires.upstream c.requires.downstream

pub leave-requires : goal.leave-requires
leave-requires c =
    let carries = two_carries c.requires.sound c.requires.in_time c.requires.has_connector c.requires.in_bounds c.requires.cells c.requires.upstream c.requires.downstream c.flow-carried.ensures.flow in
    (leaves carries 0 (omega arith) (omega arith) (begun carries c.requires.before)).0

pub enter-requires : goal.enter-requires
enter-requires c =
    let carries = two_carries c.requires.sound c.requires.in_time c.requires.has_connector c.requires.in_bounds c.requires.cells c.requires.upstream c.requires.downstream c.flow-carried.ensures.flow in
    let out = leaves carries 0 (omega arith) (omega arith) (begun carries c.requires.before) in
    (enters carries 0 (omega arith) (omega arith) (c.leave.ensures ∙ out.1)).0

pub returns : goal.returns
returns c =
    let carries = two_carries c.requires.sound c.requires.in_time c.requires.has_connector c.requires.in_bounds c.requires.cells c.requires.upstream c.requires.downstream c.flow-carried.ensures.flow in
    let out = leaves carries 0 (omega arith) (omega arith) (begun carries c.requires.before) in
    let entered = enters carries 0 (omega arith) (omega arith) (c.leave.ensures ∙ out.1) in
    ended carries (c.enter.ensures ∙ entered.1)
