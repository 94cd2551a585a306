use Rattle.std.proofs.Common.{subst}
use Rattle.timelines.specs.Passing.{HasCome}
use Rattle.timelines.proofs.Passing.{passed-none}
use Rattle.timelines.proofs.timeline.Timeline.new.Goals as goal

pub invariant_of-result : goal.invariant_of-result
invariant_of-result g c =
    let read = c.deref.ensures.value in
    subst (λ changes. HasCome c.args.start changes c.pass-come.result.0 c.pass-come.result.1 c.pass-come.result.2 0) read (record {
      rising = rw read c.requires;
      within = c.pass-come.ensures.within;
      passed = c.pass-come.ensures.passed c.args.start (passed-none c.args.start c.deref.result.now 0);
      left = c.pass-come.ensures.left;
      next = c.pass-come.ensures.until;
      later = c.pass-come.ensures.later;
    })
