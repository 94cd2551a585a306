use Rattle.std.proofs.Common.{◌+◌, arith}
use Rattle.region_slots.specs.Moments.{cut_run}
use Rattle.network_run.proofs.RoundCounts.{rounds-moved, rounds-then}
use Rattle.network_run.proofs.Told.{members_more}
use Rattle.network_run.proofs.crew.Crew.drive_watched.Goals as goal

pub returns-then-not-is_done-clause-rounds : goal.returns-then-not-is_done-clause-rounds
returns-then-not-is_done-clause-rounds g c = (
  1 + c.drive.result,
  rounds-then c.args.field.now 1 1 c.drive.result 1 c.args.self.now.members c.watch_round-shot.new.self.members c.drive.new.self.members c.watch_round-shot.ensures.many
      c.watch_round-shot.ensures.round c.drive.ensures.rounds,
)

pub returns-else-not-is_done-clause-rounds : goal.returns-else-not-is_done-clause-rounds
returns-else-not-is_done-clause-rounds g c =
    (1, rounds-moved c.args.field.now 1 1 2 c.args.self.now.members c.watch_round-shot.new.self.members (omega (arith, c.watch_round-shot.ensures.round.moved)) c.watch_round-shot.ensures.round)

pub returns-then-not-is_done-clause-told : goal.returns-then-not-is_done-clause-told
returns-then-not-is_done-clause-told g c =
    members_more (g.W.Observer.told_held c.args.observer.now (cut_run c.args.field.now.terms.setup.now)) (g.W.Observer.told_freed c.args.observer.now (cut_run c.args.field.now.terms.setup.now)) c.args.self.now.members c.watch_round-shot.new.self.members c.drive.new.self.members
    c.watch_round-shot.ensures.many c.watch_round-shot.ensures.told c.drive.ensures.told
