use Rattle.std.proofs.Common.{subst, arith}
use Rattle.network_file.specs.Sound.{IsNetwork}
use Rattle.flow_model.proofs.Bounds.{small}
use Rattle.region_body.proofs.first.state_of.Goals as goal

pub overflow_add-result : goal.overflow_add-result
overflow_add-result c =
    let sound : IsNetwork c.args.net.now = subst IsNetwork c.net.view_is c.net.invariant in
    let few = small c.args.net.now c.args.t c.args.i c.args.row.now sound c.requires.in_time c.requires.there c.requires.bounds in
    let wait = few.wait in
    let gone = few.gone in
    omega arith
