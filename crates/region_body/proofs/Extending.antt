-- What links carry at most, once one more connector is joined.
use Rattle.std.specs.Prelude.{All, Bool, not, ◌||◌, map, slice_index, if◌then◌else◌}
use Rattle.std.specs.List.{filter, list_any, range_with_len}
use Rattle.std.proofs.Common.{◌≡◌, ◌≢◌, ℕ, ◌+◌, ◌<◌, ◌≤◌, inl, inr, true, false, List, [], ◌∷◌, ◌++◌, length, get_or, take, refl, sym, ap, ◌∙◌, arith}
use Rattle.std.proofs.lemmas.Bool.{cases_Bool}
use Rattle.std.proofs.lemmas.List.{append-nil, map-append, take_more}
use Rattle.std.proofs.lemmas.List.Elements.{All-push, filter-append}
use Rattle.std.proofs.lemmas.List.Folds.{list_any-append}
use Rattle.network_file.specs.Numbered.{connector_at}
use Rattle.network_file.specs.Network.{Network}
use Rattle.network_file.specs.declared.connector.Connector.{Connector}
use Rattle.network_file.specs.declared.connector.Connector.TheVariants.{Link}
use Rattle.cell_sweep.specs.CellStates.{cell_state_at}
use Rattle.cell_sweep.specs.declared.cell_state.CellState.{CellState}
use Rattle.region_cut.proofs.Anys.{finds}
use Rattle.region_cut.proofs.Ranges.{range-Contains}
use Rattle.timelines.specs.Links.{most_between}
use Rattle.region_body.specs.FollowedLinks.{AreFollowed, IsLinkThere}
use Rattle.region_body.specs.declared.followed_link.FollowedLink.{FollowedLink}
use Rattle.region_body.specs.Chains.{AreDistinct, is_chained, is_joined, is_link, most_out, odd_ones}
use Rattle.region_body.specs.Joining.{Extends, IsAt}
use Rattle.region_body.specs.Carrying.{IsConnectorAmong}
use Rattle.region_body.specs.declared.followed_connector.FollowedConnector.{FollowedConnector}
use Rattle.region_body.proofs.Links.{link-is}

-- one connector more
pub joined-more : (net : Network) (cells connectors : List ℕ) (j q : ℕ) → j < length connectors →
    is_joined net cells (take (j + 1) connectors) q ≡
    (is_joined net cells (take j connectors) q || is_link cells q (connector_at net.connectors (get_or connectors j 0)))
unfolding is_joined
joined-more net cells connectors j q within =
    ap (list_any (λ k. is_link cells q (connector_at net.connectors k))) (take_more connectors j 0 within)
    ∙ list_any-append (λ k. is_link cells q (connector_at net.connectors k)) (take j connectors) (get_or connectors j 0 ∷ [])
    ∙ ap (λ b. is_joined net cells (take j connectors) q || b) (one (is_link cells q (connector_at net.connectors (get_or connectors j 0))))
  where
    one : (b : Bool) → (b || false) ≡ b
    one true = refl
    one false = refl

or_true : (b : Bool) → (b || true) ≡ true
or_true true = refl
or_true false = refl

or_false : (b : Bool) → (b || false) ≡ b
or_false true = refl
or_false false = refl

-- a link leads out of one place alone
one-place : (cells : List ℕ) (p q : ℕ) (connector : Connector) → AreDistinct cells → is_link cells p connector ≡ true → q ≢ p →
    is_link cells q connector ≡ false
one-place cells p q connector distinct linked other = elim (cases_Bool (is_link cells q connector)) [
  | inl too ↦
      let here = link-is cells p connector linked in
      let there = link-is cells q connector too in
      let within = here.within in
      let inside = there.within in
      let both : Link (slice_index cells p) (slice_index cells (p + 1)) ≡ Link (slice_index cells q) (slice_index cells (q + 1)) = sym here.is ∙ there.is in
      let same : slice_index cells p ≡ slice_index cells q = cc in
      absurd (other (distinct q p (omega arith) (omega arith) (sym same)))
  | inr apart ↦ apart
]

pub most-by : (net : Network) (cells connectors : List ℕ) (q s : ℕ) (b : Bool) → is_joined net cells connectors q ≡ b →
    most_out net cells connectors q s ≡ (if b then most_between net.plan (slice_index cells q) (slice_index cells (q + 1)) s else 0)
unfolding most_out
most-by net cells connectors q s b is = ap (λ b. if b then most_between net.plan (slice_index cells q) (slice_index cells (q + 1)) s else 0) is

most-same : (net : Network) (cells first later : List ℕ) (q s : ℕ) → is_joined net cells later q ≡ is_joined net cells first q →
    most_out net cells later q s ≡ most_out net cells first q s
unfolding most_out
most-same net cells first later q s same = ap (λ b. if b then most_between net.plan (slice_index cells q) (slice_index cells (q + 1)) s else 0) same

-- one that is chained
pub extends-more : (net : Network) (cells connectors : List ℕ) (j p : ℕ) (links : List FollowedLink) → j < length connectors → AreDistinct cells →
    is_link cells p (connector_at net.connectors (get_or connectors j 0)) ≡ true →
    All (λ link. is_joined net cells (take j connectors) link.place ≡ true) links →
    Extends net.plan cells p links (most_out net cells (take j connectors)) (most_out net cells (take (j + 1) connectors))
extends-more net cells connectors j p links within distinct linked joined =
    let connector : Connector = connector_at net.connectors (get_or connectors j 0) in
    record {
      here = λ s. most-by net cells (take (j + 1) connectors) p s true
          (joined-more net cells connectors j p within ∙ ap (λ b. is_joined net cells (take j connectors) p || b) linked ∙ or_true (is_joined net cells (take j connectors) p));
      others = λ q s other. most-same net cells (take j connectors) (take (j + 1) connectors) q s
          (joined-more net cells connectors j q within ∙ ap (λ b. is_joined net cells (take j connectors) q || b) (one-place cells p q connector distinct linked other)
          ∙ or_false (is_joined net cells (take j connectors) q));
      linked = λ k d inside s.
          let q : ℕ = (get_or links k d).place in
          let first = joined k d inside in
          most-same net cells (take j connectors) (take (j + 1) connectors) q s
          (joined-more net cells connectors j q within ∙ ap (λ b. b || is_link cells q connector) first ∙ sym first);
    }

-- one that isn't
pub unchained-more : (net : Network) (cells connectors : List ℕ) (j q s : ℕ) → j < length connectors →
    is_chained cells (connector_at net.connectors (get_or connectors j 0)) ≡ false →
    most_out net cells (take (j + 1) connectors) q s ≡ most_out net cells (take j connectors) q s
unchained-more net cells connectors j q s within odd =
    let connector : Connector = connector_at net.connectors (get_or connectors j 0) in
    let none : is_link cells q connector ≡ false = elim (cases_Bool (is_link cells q connector)) [
      | inl linked ↦
          let at = link-is cells q connector linked in
          let inside = at.within in
          let chained : is_chained cells connector ≡ true =
          finds (λ m. is_link cells m connector) (range_with_len 0 (length cells)) q (range-Contains (length cells) q (omega arith)) linked in
          cc
      | inr apart ↦ apart
    ] in
    most-same net cells (take j connectors) (take (j + 1) connectors) q s
    (joined-more net cells connectors j q within ∙ ap (λ b. is_joined net cells (take j connectors) q || b) none ∙ or_false (is_joined net cells (take j connectors) q))

-- the same by another name
pub followed-same : (most later : ℕ → ℕ → ℕ) (states : List CellState) (links : List FollowedLink) (t : ℕ) → ((q s : ℕ) → later q s ≡ most q s) →
    AreFollowed most states links t → AreFollowed later states links t
followed-same most later states links t same followed = record {
  timelines = λ k d within s. followed.timelines k d within s ∙ sym (same (get_or links k d).place s);
  each = λ p within. elim (followed.each p within) [
    | inl constant ↦ inl (λ s from. constant s from ∙ sym (same p s))
    | inr (m, has) ↦ inr (
      m,
      record {
        there = has.there;
        its = has.its;
        steady = λ d s from before. has.steady d s from before ∙ sym (same p s);
      },
    )
  ];
}

-- nothing is joined yet
pub followed-none : (net : Network) (cells connectors : List ℕ) (states : List CellState) (t : ℕ) → ((p : ℕ) → (cell_state_at states p).most ≡ 0) →
    AreFollowed (most_out net cells (take 0 connectors)) states [] t
unfolding most_out is_joined
followed-none net cells connectors states t none = record {
  timelines = λ k d within. absurd (omega arith);
  each = λ p within. inl (λ s from. none p);
}

-- the numbers of those that aren't chained
pub odd-more : (net : Network) (cells connectors : List ℕ) (j : ℕ) (b : Bool) → j < length connectors →
    is_chained cells (connector_at net.connectors (get_or connectors j 0)) ≡ b →
    odd_ones net cells (take (j + 1) connectors) ≡ odd_ones net cells (take j connectors) ++ (if b then [] else get_or connectors j 0 ∷ [])
odd-more net cells connectors j b within is =
    let odd : ℕ → Bool = λ k. not (is_chained cells (connector_at net.connectors k)) in
    ap (filter odd) (take_more connectors j 0 within) ∙ filter-append odd (take j connectors) (get_or connectors j 0 ∷ [])
    ∙ ap (λ list. filter odd (take j connectors) ++ list) (one odd (get_or connectors j 0) b (ap not is))
  where
    one : (odd : ℕ → Bool) (x : ℕ) (b : Bool) → odd x ≡ not b → filter odd (x ∷ []) ≡ (if b then [] else x ∷ [])
    one odd x true is = rw is refl
    one odd x false is = rw is refl

-- the states keep all but their most
pub record AreJoined (net : Network) (t : ℕ) (cells halo connectors : List ℕ) (first states : List CellState) (links : List FollowedLink) (others : List FollowedConnector) : Type 0 where
  pub only_most : (q : ℕ) → cell_state_at states q ≡ record (cell_state_at first q) { most = (cell_state_at states q).most }
  pub links_there : All (IsLinkThere (length cells) t) links
  pub joined : All (λ link. is_joined net cells connectors link.place ≡ true) links
  pub followed : AreFollowed (most_out net cells connectors) states links t
  pub numbers : map (λ followed. followed.number) others ≡ odd_ones net cells connectors
  pub connected : All (IsConnectorAmong net cells halo) others
  pub come : All (λ followed. followed.timeline.step ≤ t) others

pub joined-none : (net : Network) (t : ℕ) (cells halo connectors : List ℕ) (states : List CellState) → ((p : ℕ) → (cell_state_at states p).most ≡ 0) →
    AreJoined net t cells halo (take 0 connectors) states states [] []
joined-none net t cells halo connectors states none = record {
  only_most = λ q. refl;
  links_there = λ k d within. absurd (omega arith);
  joined = λ k d within. absurd (omega arith);
  followed = followed-none net cells connectors states t none;
  numbers = refl;
  connected = λ k d within. absurd (omega arith);
  come = λ k d within. absurd (omega arith);
}

-- a chained connector more
pub joined-chained : (net : Network) (t : ℕ) (cells halo connectors : List ℕ) (first states after : List CellState) (links later : List FollowedLink) (others : List FollowedConnector)
    (j p : ℕ) → j < length connectors → AreDistinct cells → is_link cells p (connector_at net.connectors (get_or connectors j 0)) ≡ true →
    AreJoined net t cells halo (take j connectors) first states links others → All (IsLinkThere (length cells) t) later → IsAt p links later →
    ((q : ℕ) → cell_state_at after q ≡ record (cell_state_at states q) { most = (cell_state_at after q).most }) →
    ((most next : ℕ → ℕ → ℕ) → AreFollowed most states links t → Extends net.plan cells p links most next → AreFollowed next after later t) →
    AreJoined net t cells halo (take (j + 1) connectors) first after later others
joined-chained net t cells halo connectors first states after links later others j p within distinct linked has there at only follows =
    let connector : Connector = connector_at net.connectors (get_or connectors j 0) in
    let at_link = link-is cells p connector linked in
    let inside = at_link.within in
    let chained : is_chained cells connector ≡ true =
    finds (λ m. is_link cells m connector) (range_with_len 0 (length cells)) p (range-Contains (length cells) p (omega arith)) linked in
    record {
      only_most = λ q. only q ∙ ap {B = CellState} (λ state. record state { most = (cell_state_at after q).most }) (has.only_most q);
      links_there = there;
      joined = at.each (is_joined net cells (take (j + 1) connectors))
          (λ k d lt. joined-more net cells connectors j (get_or links k d).place within ∙ ap (λ b. b || is_link cells (get_or links k d).place connector) (has.joined k d lt))
          (joined-more net cells connectors j p within ∙ ap (λ b. is_joined net cells (take j connectors) p || b) linked ∙ or_true (is_joined net cells (take j connectors) p));
      followed = follows (most_out net cells (take j connectors)) (most_out net cells (take (j + 1) connectors)) has.followed
          (extends-more net cells connectors j p links within distinct linked has.joined);
      numbers = has.numbers ∙ sym (odd-more net cells connectors j true within chained ∙ append-nil (odd_ones net cells (take j connectors)));
      connected = has.connected;
      come = has.come;
    }

-- another more
pub joined-odd : (net : Network) (t : ℕ) (cells halo connectors : List ℕ) (first states : List CellState) (links : List FollowedLink) (others : List FollowedConnector) (followed : FollowedConnector)
    (j : ℕ) → j < length connectors → is_chained cells (connector_at net.connectors (get_or connectors j 0)) ≡ false →
    followed.number ≡ get_or connectors j 0 → IsConnectorAmong net cells halo followed → followed.timeline.step ≡ 0 →
    AreJoined net t cells halo (take j connectors) first states links others →
    AreJoined net t cells halo (take (j + 1) connectors) first states links (others ++ followed ∷ [])
joined-odd net t cells halo connectors first states links others followed j within odd number connected step has = record {
  only_most = has.only_most;
  links_there = has.links_there;
  joined = λ k d lt.
      joined-more net cells connectors j (get_or links k d).place within
      ∙ ap (λ b. b || is_link cells (get_or links k d).place (connector_at net.connectors (get_or connectors j 0))) (has.joined k d lt);
  followed = followed-same (most_out net cells (take j connectors)) (most_out net cells (take (j + 1) connectors)) states links t
      (λ q s. unchained-more net cells connectors j q s within odd) has.followed;
  numbers = map-append (λ followed. followed.number) others (followed ∷ []) ∙ ap (λ list. list ++ followed.number ∷ []) has.numbers
      ∙ ap (λ k. odd_ones net cells (take j connectors) ++ k ∷ []) number ∙ sym (odd-more net cells connectors j false within odd);
  connected = All-push (IsConnectorAmong net cells halo) others followed has.connected connected;
  come = All-push (λ followed. followed.timeline.step ≤ t) others followed has.come (omega arith);
}
