use Rattle.std.proofs.Common.{ap, ◌∙◌, arith, ◌+◌, false, if◌then◌else◌, slice_index_or}
use Rattle.ordinary_link.proofs.Places.{Sets-stored}
use Rattle.ordinary_link.proofs.LesserLanes.{lesser, length-lesser, slice_index-lesser}
use Rattle.ordinary_link.proofs.MarkLanes.{where_set, length-where_set, slice_index-where_set}
use Rattle.ordinary_link.proofs.rows.send.send_lanes.Goals as goal

pub returns : goal.returns
returns c =
    let at = c.args.at in
    let n = c.args.n.now in
    let q = c.args.q.now in
    let marks = c.mark_lanes.result in
    let all = lesser at q n in
    let all8 = length-lesser at q n (omega arith) (omega arith) in
    let m8 = c.mark_lanes.ensures.len in
    Sets-stored at _ c.args.s.now (where_set marks all) (length-where_set marks all m8 all8) c.requires.room
    (λ k lt.
    let green = slice_index_or c.args.green.now (at + k) false in
    slice_index-where_set marks all k green m8 all8 lt (c.mark_lanes.ensures.lanes k lt)
    ∙ ap (λ x. if green then x else 0) (slice_index-lesser at q n k (omega arith) (omega arith) lt))
