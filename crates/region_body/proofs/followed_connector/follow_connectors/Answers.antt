use Rattle.std.proofs.Common.{arith}
use Rattle.region_body.proofs.FollowedConnectors.{followed-yet}
use Rattle.region_body.proofs.followed_connector.follow_connectors.Goals as goal

pub returns-then-t-until : goal.returns-then-t-until
returns-then-t-until c = record {
  connectors = followed-yet c.args.t c.args.until c.args.connectors.now c.requires.step c.requires.until (omega arith);
  until = c.requires.until;
}
