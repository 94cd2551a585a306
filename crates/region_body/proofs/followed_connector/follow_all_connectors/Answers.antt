use Rattle.std.proofs.Common.{◌≡◌, ◌<◌, ◌≤◌, ℕ, ◌+◌, List, get_or, length, set, inl, inr, sym, subst, ◌∙◌, arith}
use Rattle.std.proofs.lemmas.Bool.{cases_eq}
use Rattle.std.proofs.lemmas.List.{get_or_default, get_or-set_other, get_or-set_same}
use Rattle.region_body.specs.Carrying.{IsConnectorFollowed}
use Rattle.region_body.specs.declared.followed_connector.FollowedConnector.{FollowedConnector}
use Rattle.region_body.proofs.FollowedConnectors.{begun-all, begun-more, begun-none}
use Rattle.region_body.proofs.followed_connector.follow_all_connectors.Goals as goal

pub loop-m-init : goal.loop-m-init
loop-m-init c = record {
  begun = begun-none c.args.t c.args.connectors.now;
  unchanged = λ k d before. absurd (omega (arith, before));
}

-- one more of them
unchanged-more : (connectors : List FollowedConnector) (m until least : ℕ) (new : FollowedConnector) → m < length connectors → least ≤ until → least ≤ new.timeline.until →
    ((k : ℕ) (d : FollowedConnector) → k < m → until ≤ (get_or connectors k d).timeline.until) → (k : ℕ) (d : FollowedConnector) → k < m + 1 → least ≤ (get_or (set connectors m new) k d).timeline.until
unchanged-more connectors m until least new within few few_new each k d before = elim (cases_eq k m) [
  | inl same ↦ rw (same, get_or-set_same connectors m new d within) few_new
  | inr other ↦ rw (get_or-set_other connectors m k new d other) (omega (arith, few, each k d (omega (arith, before, other))))
]

pub loop-m-preserved : goal.loop-m-preserved
loop-m-preserved c =
    let t : ℕ = c.args.t in
    let first = c.args.connectors.now in
    let j : ℕ = c.loop-m.m in
    let d0 : FollowedConnector = c.index-connectors-m.result in
    let begun = c.loop-m.invariant.begun in
    let within : j < length first = omega (arith, begun.long) in
    let read : (d : FollowedConnector) → get_or first j d ≡ get_or c.loop-m.connectors j d0 =
    λ d. sym (begun.rest j d (omega arith)) ∙ get_or_default c.loop-m.connectors j d d0 (omega (arith, begun.long)) in
    record {
      begun = begun-more t j first c.loop-m.connectors c.follow_connector.new.connector within begun
          (λ d. subst (λ old. IsConnectorFollowed t old c.follow_connector.new.connector) (sym (read d)) c.follow_connector.ensures.connector);
      unchanged = unchanged-more c.loop-m.connectors j c.loop-m.until _ c.follow_connector.new.connector (omega (arith, begun.long)) (omega (arith, c.min-until.ensures))
          (omega (arith, c.min-until.ensures, c.follow_connector.ensures.until)) c.loop-m.invariant.unchanged;
    }

pub returns : goal.returns
returns c =
    let begun = c.loop-m.invariant.begun in
    record {
      connectors = begun-all c.args.t c.loop-m.m c.args.connectors.now c.loop-m.connectors (omega (arith, begun.long)) begun;
      until = λ k d within. c.loop-m.invariant.unchanged k d (omega (arith, within, begun.long));
    }
