-- Connectors that are followed one after the other.
use Rattle.std.specs.Prelude.{All, map}
use Rattle.std.proofs.Common.{◌≡◌, ℕ, ◌+◌, ◌<◌, ◌≤◌, inl, inr, List, length, get_or, set, refl, ◌∙◌, arith}
use Rattle.std.proofs.lemmas.Bool.{cases_eq}
use Rattle.std.proofs.lemmas.List.{get_or-set_other, get_or-set_same, length-set}
use Rattle.network_file.specs.Numbered.{connector_at}
use Rattle.network_file.specs.Network.{Network}
use Rattle.connector_flow.specs.Following.{given_in}
use Rattle.region_body.specs.Carrying.{AreConnectorsAmong, AreConnectorsFollowed, IsConnectorAmong, IsConnectorFollowed}
use Rattle.region_body.specs.declared.followed_connector.FollowedConnector.{FollowedConnector}
use Rattle.region_body.proofs.SameMaps.{map-same}

-- the first j were followed, and the others are as they were
pub record AreBegun (t j : ℕ) (first connectors : List FollowedConnector) : Type 0 where
  pub long : length connectors ≡ length first
  pub done : (k : ℕ) (d : FollowedConnector) → k < j → IsConnectorFollowed t (get_or first k d) (get_or connectors k d)
  pub rest : (k : ℕ) (d : FollowedConnector) → j ≤ k → get_or connectors k d ≡ get_or first k d

pub begun-none : (t : ℕ) (first : List FollowedConnector) → AreBegun t 0 first first
begun-none t first = record {
  long = refl;
  done = λ k d before. absurd (omega arith);
  rest = λ k d past. refl;
}

pub begun-more : (t j : ℕ) (first connectors : List FollowedConnector) (new : FollowedConnector) → j < length first → AreBegun t j first connectors →
    ((d : FollowedConnector) → IsConnectorFollowed t (get_or first j d) new) → AreBegun t (j + 1) first (set connectors j new)
begun-more t j first connectors new within begun carried = record {
  long = length-set connectors j new ∙ begun.long;
  done = λ k d before. elim (cases_eq k j) [
    | inl same ↦ rw (same, get_or-set_same connectors j new d (omega (arith, begun.long))) (carried d)
    | inr other ↦ rw (get_or-set_other connectors j k new d other) (begun.done k d (omega arith))
  ];
  rest = λ k d past. get_or-set_other connectors j k new d (omega arith) ∙ begun.rest k d (omega arith);
}

pub begun-all : (t j : ℕ) (first connectors : List FollowedConnector) → length first ≤ j → AreBegun t j first connectors → AreConnectorsFollowed t first connectors
begun-all t j first connectors whole begun = record { long = begun.long; each = λ k d within. begun.done k d (omega arith) }

-- connectors none of which changes by step t need not be followed
pub followed-yet : (t until : ℕ) (connectors : List FollowedConnector) → All (λ connector. connector.timeline.step ≤ t) connectors → All (λ connector. until ≤ connector.timeline.until) connectors → t < until →
    AreConnectorsFollowed t connectors connectors
followed-yet t until connectors come unchanged before = record {
  long = refl;
  each = λ k d within. record {
    number = refl;
    cells = refl;
    rule = refl;
    flow = λ s n. refl;
    step = come k d within;
    later = omega (arith, unchanged k d within);
  };
}

-- one that was followed is that of the network still
connector-followed : (net : Network) (cells halo : List ℕ) (t : ℕ) (old new : FollowedConnector) → IsConnectorAmong net cells halo old → IsConnectorFollowed t old new → IsConnectorAmong net cells halo new
connector-followed net cells halo t old new connector carried = record {
  there = rw carried.number connector.there;
  refs = rw (carried.number, carried.cells) connector.refs;
  timeline = rw carried.number (record {
    rule = carried.rule ∙ connector.timeline.rule;
    flow = λ s n before held. carried.flow s (given_in net s (connector_at net.connectors old.number) n) ∙ connector.timeline.flow s n before held;
  });
}

pub connected-followed : (net : Network) (cells halo : List ℕ) (t : ℕ) (old new : List FollowedConnector) → AreConnectorsAmong net cells halo old → AreConnectorsFollowed t old new →
    AreConnectorsAmong net cells halo new
connected-followed net cells halo t old new connected carried = record {
  distinct = connected.distinct;
  apart = connected.apart;
  each = λ k d within.
      let inside : k < length old = omega (arith, carried.long) in
      connector-followed net cells halo t (get_or old k d) (get_or new k d) (connected.each k d inside) (carried.each k d inside);
}

pub numbers-followed : (t : ℕ) (old new : List FollowedConnector) → AreConnectorsFollowed t old new → map (λ connector. connector.number) new ≡ map (λ connector. connector.number) old
numbers-followed t old new carried = map-same (λ connector. connector.number) old new carried.long (λ k d within. (carried.each k d within).number)

pub come-followed : (t : ℕ) (old new : List FollowedConnector) → AreConnectorsFollowed t old new → All (λ connector. connector.timeline.step ≤ t + 1) new
come-followed t old new carried = λ k d within.
    let is = (carried.each k d (omega (arith, carried.long))).step in omega (arith, is)
