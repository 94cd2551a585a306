use Rattle.std.proofs.Common.{◌<◌, ◌≤◌, ℕ, get_or}
use Rattle.region_body.specs.declared.followed_connector.FollowedConnector.{FollowedConnector}
use Rattle.region_body.proofs.FollowedConnectors.{AreBegun}
use Rattle.region_body.proofs.followed_connector.follow_all_connectors.Given as goal

abbrev pub invariant-loop-m : goal.invariant-loop-m
invariant-loop-m l = record {
  begun : AreBegun l.t l.m l.initial.connectors l.connectors;
  unchanged : (k : ℕ) (d : FollowedConnector) → k < l.m → l.until ≤ (get_or l.connectors k d).timeline.until;
}
