use Rattle.std.proofs.Common.{arith}
use Rattle.ordinary_link.proofs.Places.{Sets-stored}
use Rattle.ordinary_link.proofs.LesserLanes.{lesser, length-lesser, slice_index-lesser}
use Rattle.ordinary_link.proofs.rows.link.link_lanes.Goals as goal

pub returns : goal.returns
returns c =
    let at = c.args.at in
    let s = c.args.s.now in
    let r = c.args.r.now in
    Sets-stored at _ c.args.y.now (lesser at s r) (length-lesser at s r (omega arith) (omega arith)) c.requires.room
    (λ k lt. slice_index-lesser at s r k (omega arith) (omega arith) lt)
