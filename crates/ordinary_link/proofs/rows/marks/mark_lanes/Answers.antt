use Rattle.std.proofs.Common.{◌+◌, false, if◌then◌else◌, slice_index_or, arith, ◌∙◌}
use Rattle.std.proofs.Math.ListN.{length-set}
use Rattle.ordinary_link.proofs.MarkLanes.{marks_more, bool_byte_is}
use Rattle.ordinary_link.proofs.rows.marks.mark_lanes.Goals as goal

pub loop-k-preserved : goal.loop-k-preserved
loop-k-preserved c = record {
  long = length-set c.loop-k.lanes c.loop-k.k c.from.result ∙ c.loop-k.invariant.long;
  lanes = marks_more (λ i. if slice_index_or c.args.marks.now (c.args.at + i) false then 1 else 0) c.loop-k.k c.from.result
      c.loop-k.lanes (omega arith) (c.from.ensures ∙ bool_byte_is _) c.loop-k.invariant.lanes;
}
