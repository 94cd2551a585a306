use Rattle.step_plan.proofs.Merging.{IsMerged-all, IsMerged-next, IsMerged-none, at_step, next_is_past}
use Rattle.step_plan.proofs.merge.merge.Goals as goal

pub loop-i-init : goal.loop-i-init
loop-i-init g c =
    rw (c.none-old.ensures, c.none-new.ensures, c.new-merged.ensures.items)
    (IsMerged-none g.T.Join.joined g.T.Join.none c.args.older.now c.args.newer.now (g.met.T.Join.none_joined g.T.Join.none))

pub join-requires : goal.join-requires
join-requires g c =
    let step = c.next_step-step.result in
    let past = next_is_past _ _ _ _ _ _ _ _ _ step c.next_step-step.ensures.here c.loop-i.invariant in
    let first = at_step _ _ _ _ _ step _ _ past c.loop-i.invariant.of_older c.advance.ensures in
    let second = at_step _ _ _ _ _ step _ _ past c.loop-i.invariant.of_newer c.advance-in-loop-i.ensures in
    rw (first, second) at (c.requires.fits step)

pub loop-i-preserved : goal.loop-i-preserved
loop-i-preserved g c =
    let past = next_is_past _ _ _ _ _ _ _ _ _ c.next_step-step.result c.next_step-step.ensures.here c.loop-i.invariant in
    rw (c.in_ok-push.ensures.items, c.join.ensures) (
    IsMerged-next _ _ _ _ _ _ _ _ _ _ _ _ _ _ past c.advance.ensures c.advance-in-loop-i.ensures c.loop-i.invariant
    )

pub returns-clause-in_force : goal.returns-clause-in_force
returns-clause-in_force g c = IsMerged-all _ _ _ _ _ _ _ _ _ c.if-i-older.false c.if-j-newer.false c.loop-i.invariant
