-- States, links and speeds as they are renewed for a step.
use Rattle.std.specs.Prelude.{All, min, slice_index}
use Rattle.std.proofs.Common.{◌≡◌, ℕ, ◌+◌, ◌<◌, false, inl, inr, List, ◌++◌, length, refl, sym, ap, ◌∙◌, arith}
use Rattle.std.proofs.lemmas.Bool.{cases_Bool}
use Rattle.step_plan.specs.Speeds.{arriving, speed_at}
use Rattle.step_plan.proofs.Laws.{arriving-le}
use Rattle.network_file.specs.Network.{Network}
use Rattle.network_file.specs.Sound.{IsNetwork}
use Rattle.flow_model.proofs.CellLimits.{speed_at-sound}
use Rattle.timelines.specs.Timelines.{value_at}
use Rattle.cell_sweep.specs.CellStates.{AreSound, cell_state_at}
use Rattle.cell_sweep.specs.declared.cell_state.CellState.{CellState}
use Rattle.region_body.specs.Chains.{most_out}
use Rattle.region_body.specs.FollowedLinks.{AreFollowed, IsLinkThere}
use Rattle.region_body.specs.declared.followed_link.FollowedLink.{FollowedLink}
use Rattle.region_body.specs.Placed.{ArePlaced, PlacedCells}
use Rattle.cell_sweep.specs.Speeds.{at_speeds, is_slow, slowed_state, ratio_at}
use Rattle.region_body.specs.FollowedSpeeds.{AreSpeedsInForce, AreSpeedsAsBefore, AreSpeedsOf, IsSpeedThere, cell_speed, is_listed}
use Rattle.region_body.specs.declared.followed_speed.FollowedSpeed.{FollowedSpeed}
use Rattle.cell_sweep.proofs.AtSpeeds.{at_speeds-at, length-at_speeds}
use Rattle.region_body.proofs.SpeedsNow.{AreSpeedsNow, speeds-now}
use Rattle.region_body.proofs.SpeedTimelines.{listed-at, listed-same, no_speed}

-- a place whose cell isn't slow has its road's own speed
pub speed-free : (net : Network) (cells : List ℕ) (timelines : List FollowedSpeed) (speeds : List (ℕ × ℕ)) (t until p : ℕ) → AreSpeedsOf net cells timelines speeds t until →
    is_slow net cells p ≡ false → ratio_at speeds p ≡ (1, 1)
speed-free net cells timelines speeds t until p are free = elim (cases_Bool (is_listed timelines p)) [
  | inl listed ↦
      let at = listed-at timelines p listed in
      absurd (cc (sym (ap (is_slow net cells) at.2) ∙ are.slow at.0 no_speed at.1, free))
  | inr other ↦ are.others p other
]

-- what is sent out of place p within limits, of what comes to the end of its cell
abbrev pub sent_now : Network → (cells connectors : List ℕ) → (t p n : ℕ) → ℕ
sent_now net cells connectors t p n = min (most_out net cells connectors p t) (arriving (speed_at net.plan (slice_index cells p) t) n)

pub sends-now : (net : Network) (cells halo connectors : List ℕ) (speeds : List (ℕ × ℕ)) (t p n : ℕ) → IsNetwork net →
    AreSpeedsNow net t cells halo speeds → p < length cells →
    min (min (most_out net cells connectors p t) (arriving (ratio_at speeds p) n)) n ≡ sent_now net cells connectors t p n
sends-now net cells halo connectors speeds t p n sound now within =
    let few = arriving-le (cell_speed net cells p t) n (speed_at-sound net (slice_index cells p) t sound) in
    let is = now.own p within in
    rw is (omega (arith, few))

-- states that send in step t what limits and speeds let through
pub record AreRenewed (net : Network) (cells connectors : List ℕ) (t : ℕ) (placed : PlacedCells) (states : List CellState) : Type 0 where
  pub long : length states ≡ length placed.states
  pub only_most : (p : ℕ) → p < length placed.states → cell_state_at states p ≡ record (cell_state_at placed.states p) { most = (cell_state_at states p).most }
  pub sends : (p : ℕ) → p < length placed.states → min (cell_state_at states p).most (cell_state_at placed.states p).n ≡ sent_now net cells connectors t p (cell_state_at placed.states p).n

-- states of which only the most may be another
pub record AreKept (placed : PlacedCells) (states : List CellState) : Type 0 where
  pub long : length states ≡ length placed.states
  pub only_most : (p : ℕ) → p < length placed.states → cell_state_at states p ≡ record (cell_state_at placed.states p) { most = (cell_state_at states p).most }

-- what is renewed
pub record Renewal : Type 0 where
  pub states : List CellState
  pub links : List FollowedLink
  pub timelines : List FollowedSpeed
  pub speeds : List (ℕ × ℕ)
  pub until : ℕ

-- the states as they send
abbrev pub sending : Renewal → List CellState
sending new = at_speeds new.states new.speeds

-- what is told of it
pub record IsRenewal (t : ℕ) (placed : PlacedCells) (new : Renewal) : Type 0 where
  pub long : length new.states ≡ length placed.states
  pub there : All (IsLinkThere (length placed.states) t) new.links
  pub most : (most : ℕ → ℕ → ℕ) → AreFollowed most placed.states placed.links t → (p : ℕ) → p < length placed.states →
      cell_state_at new.states p ≡ record (cell_state_at placed.states p) { most = most p t }
  pub followed : (most : ℕ → ℕ → ℕ) → AreFollowed most placed.states placed.links t → AreFollowed most new.states new.links t
  pub speeds_long : length new.speeds ≡ length placed.speeds
  pub speeds_there : All (IsSpeedThere (length placed.speeds) t) new.timelines
  pub as_before : AreSpeedsAsBefore placed.speed_timelines new.timelines
  pub later : t < new.until
  pub in_force : (speed : ℕ → ℕ → ℕ × ℕ) → All (λ one. (s : ℕ) → value_at one.timeline s ≡ speed one.place s) placed.speed_timelines →
      AreSpeedsInForce speed placed.speed_timelines placed.speeds t placed.speeds_until → AreSpeedsInForce speed placed.speed_timelines new.speeds t new.until
  pub others : (p : ℕ) → is_listed placed.speed_timelines p ≡ false → ratio_at new.speeds p ≡ ratio_at placed.speeds p

-- states, links and speeds in step t
pub record IsFresh (net : Network) (cells halo connectors : List ℕ) (t : ℕ) (placed : PlacedCells) (new : Renewal) : Type 0 where
  pub renewed : AreRenewed net cells connectors t placed (sending new)
  pub kept : AreKept placed new.states
  pub links_there : All (IsLinkThere (length new.states) t) new.links
  pub followed : AreFollowed (most_out net cells connectors) new.states new.links t
  pub speeds : AreSpeedsOf net (cells ++ halo) new.timelines new.speeds t new.until
  pub later : t < new.until

speeds-renewed : (net : Network) (cells : List ℕ) (t : ℕ) (placed : PlacedCells) (new : Renewal) → AreSpeedsOf net cells placed.speed_timelines placed.speeds t placed.speeds_until →
    IsRenewal t placed new → AreSpeedsOf net cells new.timelines new.speeds t new.until
speeds-renewed net cells t placed new has is =
    let same = λ (p : ℕ). listed-same placed.speed_timelines new.timelines p is.as_before in
    record {
      there = rw is.speeds_long is.speeds_there;
      known = λ some. rw is.speeds_long (has.known (rw is.speeds_long at some));
      values = λ k d within s.
          let inside : k < length placed.speed_timelines = omega (arith, within, is.as_before.long) in
          let one = is.as_before.each k d inside in
          one.value s ∙ has.values k d inside s ∙ ap (λ p. cell_speed net cells p s) (sym one.place);
      slow = λ k d within.
          let inside : k < length placed.speed_timelines = omega (arith, within, is.as_before.long) in
          ap (is_slow net cells) (is.as_before.each k d inside).place ∙ has.slow k d inside;
      whole = λ p within slow. same p ∙ has.whole p within slow;
      in_force = λ p listed. is.in_force (cell_speed net cells) has.values has.in_force p (sym (same p) ∙ listed);
      others = λ p other. is.others p (sym (same p) ∙ other) ∙ has.others p (sym (same p) ∙ other);
    }

pub renewed-of : (net : Network) (cells halo connectors : List ℕ) (t : ℕ) (placed : PlacedCells) (states : List CellState) (speeds : List (ℕ × ℕ)) →
    IsNetwork net → length placed.states ≡ length cells → length states ≡ length placed.states →
    ((p : ℕ) → p < length placed.states → cell_state_at states p ≡ record (cell_state_at placed.states p) { most = most_out net cells connectors p t }) →
    AreSpeedsNow net t cells halo speeds → AreRenewed net cells connectors t placed (at_speeds states speeds)
renewed-of net cells halo connectors t placed states speeds sound one_each long most now =
    let at = λ (p : ℕ) (within : p < length placed.states). at_speeds-at states speeds p (omega (arith, within, long)) in
    record {
      long = length-at_speeds states speeds ∙ long;
      only_most = λ p within.
          let slowed : CellState = slowed_state (cell_state_at states p) (ratio_at speeds p) in
          at p within ∙ ap {B = CellState} (λ (state : CellState). record state { most = slowed.most }) (most p within)
          ∙ ap {B = CellState} (λ m. record (cell_state_at placed.states p) { most = m }) (sym (ap (λ state. state.most) (at p within)));
      sends = λ p within.
          let n : ℕ = (cell_state_at placed.states p).n in
          ap (λ state. min state.most n) (at p within) ∙ ap (λ state. min (slowed_state state (ratio_at speeds p)).most n) (most p within)
          ∙ sends-now net cells halo connectors speeds t p n sound now (omega (arith, within, one_each));
    }

pub fresh-of : (net : Network) (cells halo connectors : List ℕ) (t : ℕ) (placed : PlacedCells) (new : Renewal) → IsNetwork net → ArePlaced net cells halo connectors t placed →
    IsRenewal t placed new → IsFresh net cells halo connectors t placed new
fresh-of net cells halo connectors t placed new sound has is =
    let most = is.most (most_out net cells connectors) has.followed in
    let speeds = speeds-renewed net (cells ++ halo) t placed new has.speeds is in
    record {
      renewed = renewed-of net cells halo connectors t placed new.states new.speeds sound has.one_each is.long most
          (speeds-now net cells halo new.timelines new.speeds t new.until speeds is.later);
      kept = record {
        long = is.long;
        only_most = λ p within. most p within ∙ ap {B = CellState} (λ m. record (cell_state_at placed.states p) { most = m }) (sym (ap (λ state. state.most) (most p within)));
      };
      links_there = rw is.long is.there;
      followed = is.followed (most_out net cells connectors) has.followed;
      speeds = speeds;
      later = is.later;
    }

-- speeds that were followed to step t are those of the next step
pub speeds-later : (net : Network) (cells : List ℕ) (timelines : List FollowedSpeed) (speeds : List (ℕ × ℕ)) (t until : ℕ) → AreSpeedsOf net cells timelines speeds t until →
    AreSpeedsOf net cells timelines speeds (t + 1) until
speeds-later net cells timelines speeds t until are = record {
  there = λ k d within. record { place = (are.there k d within).place; step = omega (arith, (are.there k d within).step) };
  known = are.known;
  values = are.values;
  slow = are.slow;
  whole = are.whole;
  in_force = λ p listed s from before. are.in_force p listed s (omega (arith, from)) before;
  others = are.others;
}

-- states that can be swept as they send can be swept
pub sound-sending : (states : List CellState) (speeds : List (ℕ × ℕ)) → AreSound (at_speeds states speeds) → AreSound states
sound-sending states speeds sound = record {
  room = λ p within.
      let at = at_speeds-at states speeds p within in
      omega (arith, sound.room p (omega (arith, within, length-at_speeds states speeds)), ap (λ state. state.n) at, ap (λ state. state.space.storage) at);
  gone = λ p within.
      let at = at_speeds-at states speeds p within in
      omega (arith, sound.gone p (omega (arith, within, length-at_speeds states speeds)), ap (λ state. state.n) at, ap (λ state. state.gone) at);
}
