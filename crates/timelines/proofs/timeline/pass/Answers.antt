use Rattle.std.proofs.Common.{sym, arith}
use Rattle.timelines.proofs.Passing.{passed-more}
use Rattle.timelines.proofs.timeline.pass.Goals as goal

pub loop-k-preserved : goal.loop-k-preserved
loop-k-preserved g c = λ start passed.
    let change = c.index-changes-k.result in
    passed-more start c.args.changes.now c.loop-k.k c.args.t change change (omega arith) (sym c.index-changes-k.is) (omega arith)
