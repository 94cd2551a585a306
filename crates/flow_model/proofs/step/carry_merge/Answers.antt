use Rattle.std.proofs.Common.{◌∙◌, arith, refl}
use Rattle.flow_model.proofs.Carrying.{begun, ended, enters, leaves, three_carries, three_held}
use Rattle.flow_model.proofs.step.carry_merge.Goals as goal

pub flow-carried-requires-clause-held : goal.flow-carried-requires-clause-held
flow-carried-requires-clause-held c =
    three_held c.args.net.now c.args.t c.args.k 2 1 c.args.cells c.args.old.now c.requires.sound c.requires.has_connector
    c.requires.in_bounds c.requires.cells c.requires.upstream c.requires.downstream refl

pub leave-requires : goal.leave-requires
leave-requires c =
    let carries = three_carries c.requires.sound c.requires.in_time c.requires.has_connector c.requires.in_bounds c.requires.cells c.requires.upstream c.requires.downstream refl c.flow-carried.ensures.flow in
    (leaves carries 0 (omega arith) (omega arith) (begun carries c.requires.before)).0

pub leave-requires-2 : goal.leave-requires-2
leave-requires-2 c =
    let carries = three_carries c.requires.sound c.requires.in_time c.requires.has_connector c.requires.in_bounds c.requires.cells c.requires.upstream c.requires.downstream refl c.flow-carried.ensures.flow in
    let first = leaves carries 0 (omega arith) (omega arith) (begun carries c.requires.before) in
    (leaves carries 1 (omega arith) (omega arith) (c.leave.ensures ∙ first.1)).0

pub enter-requires : goal.enter-requires
enter-requires c =
    let carries = three_carries c.requires.sound c.requires.in_time c.requires.has_connector c.requires.in_bounds c.requires.cells c.requires.upstream c.requires.downstream refl c.flow-carried.ensures.flow in
    let first = leaves carries 0 (omega arith) (omega arith) (begun carries c.requires.before) in
    let second = leaves carries 1 (omega arith) (omega arith) (c.leave.ensures ∙ first.1) in
    (enters carries 0 (omega arith) (omega arith) (c.leave-2.ensures ∙ second.1)).0

pub returns : goal.returns
returns c =
    let carries = three_carries c.requires.sound c.requires.in_time c.requires.has_connector c.requires.in_bounds c.requires.cells c.requires.upstream c.requires.downstream refl c.flow-carried.ensures.flow in
    let first = leaves carries 0 (omega arith) (omega arith) (begun carries c.requires.before) in
    let second = leaves carries 1 (omega arith) (omega arith) (c.leave.ensures ∙ first.1) in
    let entered = enters carries 0 (omega arith) (omega arith) (c.leave-2.ensures ∙ second.1) in
    ended carries (c.enter.ensures ∙ entered.1)
