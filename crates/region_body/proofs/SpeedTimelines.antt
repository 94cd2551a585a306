-- Speeds whose changes are written one after the other.
use Rattle.std.specs.Prelude.{All, Bool, ◌==◌, ◌||◌}
use Rattle.std.proofs.Common.{◌≡◌, ◌≢◌, ℕ, suc, ◌+◌, ◌<◌, ◌≤◌, true, false, inl, inr, List, [], ◌∷◌, ◌++◌, length, get_or, set, take, refl, sym, ap, ◌∙◌, subst, arith}
use Rattle.std.proofs.lemmas.Bool.{cases_eq, eq-eqb, eqb-true, ne_eqb}
use Rattle.std.proofs.lemmas.List.{get_or_default, get_or-set_other, get_or-set_same, length-set}
use Rattle.std.proofs.lemmas.List.Folds.{Any-from_list_any, list_any-append, list_any_more}
use Rattle.step_plan.specs.SpeedBounds.{IsSpeed}
use Rattle.timelines.specs.Timelines.{TimelineValue, value_at}
use Rattle.cell_sweep.specs.Speeds.{ratio_at}
use Rattle.region_body.specs.FollowedSpeeds.{AreSpeedsInForce, AreSpeedsAsBefore, IsSpeedAsBefore, IsSpeedThere, is_listed}
use Rattle.region_body.specs.declared.followed_speed.FollowedSpeed.{FollowedSpeed}

-- one speed more
pub listed-push : (timelines : List FollowedSpeed) (one : FollowedSpeed) (p : ℕ) → is_listed (timelines ++ one ∷ []) p ≡ (is_listed timelines p || (one.place == p))
listed-push timelines one p =
    list_any-append (λ one. one.place == p) timelines (one ∷ []) ∙ ap (λ b. is_listed timelines p || b) (alone (one.place == p))
  where
    alone : (b : Bool) → (b || false) ≡ b
    alone true = refl
    alone false = refl

either : (a b : Bool) → (a || b) ≡ true → b ≡ false → a ≡ true
either true b is none = refl
either false b is none = cc

neither-first : (a b : Bool) → (a || b) ≡ false → a ≡ false
neither-first true b is = cc
neither-first false b is = refl

neither-second : (a b : Bool) → (a || b) ≡ false → b ≡ false
neither-second true b is = cc
neither-second false b is = is

-- the first j speeds are written: their places have what is in force up to a step, and the others are as they were
pub record AreWritten (first_timelines timelines : List FollowedSpeed) (first speeds : List (ℕ × ℕ)) (t until j : ℕ) : Type 0 where
  pub there : All (IsSpeedThere (length speeds) t) timelines
  pub values : All (λ one. (s : ℕ) → IsSpeed (value_at one.timeline s)) timelines
  pub as_before : AreSpeedsAsBefore first_timelines timelines
  pub later : t < until
  pub in_force : (speed : ℕ → ℕ → ℕ × ℕ) → All (λ one. (s : ℕ) → value_at one.timeline s ≡ speed one.place s) first_timelines →
      AreSpeedsInForce speed (take j first_timelines) speeds t until
  pub others : (p : ℕ) → is_listed (take j first_timelines) p ≡ false → ratio_at speeds p ≡ ratio_at first p

-- one more
pub record IsWritten (timelines : List FollowedSpeed) (speeds : List (ℕ × ℕ)) (t until j : ℕ) (old new : FollowedSpeed) (after : ℕ × ℕ) : Type 0 where
  pub within : j < length timelines
  pub read : (d : FollowedSpeed) → get_or timelines j d ≡ old
  pub there : old.place < length speeds
  pub step : new.timeline.step ≤ t
  pub as_before : IsSpeedAsBefore old new
  pub later : t < until
  pub after_is : (s : ℕ) → t ≤ s → s < until → after ≡ value_at old.timeline s

pub written-more : (first_timelines timelines : List FollowedSpeed) (first speeds : List (ℕ × ℕ)) (t until sooner j : ℕ) (old new : FollowedSpeed) (after : ℕ × ℕ) →
    AreWritten first_timelines timelines first speeds t until j → IsWritten timelines speeds t sooner j old new after → sooner ≤ until →
    AreWritten first_timelines (set timelines j new) first (set speeds old.place after) t sooner (j + 1)
written-more first_timelines timelines first speeds t until sooner j old new after was is less =
    let q : ℕ = old.place in
    let long = was.as_before.long in
    let within : j < length timelines = is.within in
    let inside : j < length first_timelines = omega (arith, long, within) in
    let now = set speeds q after in
    let own : FollowedSpeed = get_or first_timelines j old in
    let since : IsSpeedAsBefore own old = subst (IsSpeedAsBefore own) (is.read old) (was.as_before.each j old inside) in
    let at : ratio_at now q ≡ after = get_or-set_same speeds q after (1, 1) is.there in
    record {
      there = λ k d lt. elim (cases_eq k j) [
        | inl same ↦
            rw (same, get_or-set_same timelines j new d within)
            (record { place = omega (arith, length-set speeds q after, is.there, is.as_before.place); step = is.step })
        | inr other ↦
            let has = was.there k d (omega (arith, length-set timelines j new)) in
            rw (get_or-set_other timelines j k new d other) (record { place = omega (arith, length-set speeds q after, has.place); step = has.step })
      ];
      values = λ k d lt. elim (cases_eq k j) [
        | inl same ↦
            rw (same, get_or-set_same timelines j new d within)
            (λ s. rw (is.as_before.value s, ← is.read d) (was.values j d within s))
        | inr other ↦ rw (get_or-set_other timelines j k new d other) (was.values k d (omega (arith, length-set timelines j new)))
      ];
      as_before = record {
        long = length-set timelines j new ∙ long;
        each = λ k d lt. elim (cases_eq k j) [
          | inl same ↦
              let one = was.as_before.each j d inside in
              let first_is : get_or timelines j d ≡ old = is.read d in
              let one_is : IsSpeedAsBefore (get_or first_timelines j d) old = subst (IsSpeedAsBefore (get_or first_timelines j d)) first_is one in
              rw (same, get_or-set_same timelines j new d within)
              (record { place = is.as_before.place ∙ one_is.place; value = λ s. is.as_before.value s ∙ one_is.value s })
          | inr other ↦ rw (get_or-set_other timelines j k new d other) (was.as_before.each k d lt)
        ];
      };
      later = is.later;
      in_force = λ speed are p listed s from before. elim (cases_eq p q) [
        | inl same ↦
            rw (same, at) (is.after_is s from before ∙ since.value s ∙ are j old inside s ∙ ap (λ k. speed k s) (sym since.place))
        | inr other ↦
            let none : (own.place == p) ≡ false = ne_eqb own.place p (λ equal. other (sym (since.place ∙ equal))) in
            rw (get_or-set_other speeds q p after (1, 1) other)
            (was.in_force speed are p (either (is_listed (take j first_timelines) p) (own.place == p) (sym (list_any_more (λ one. one.place == p) first_timelines j old inside) ∙ listed) none)
            s from (omega (arith, before, less)))
      ];
      others = λ p listed.
          let both = sym (list_any_more (λ one. one.place == p) first_timelines j old inside) ∙ listed in
          let none : (own.place == p) ≡ false = neither-second (is_listed (take j first_timelines) p) (own.place == p) both in
          let other : p ≢ q = λ equal. absurd (cc (none, eq-eqb own.place p (sym (equal ∙ since.place)))) in
          rw (get_or-set_other speeds q p after (1, 1) other) (was.others p (neither-first (is_listed (take j first_timelines) p) (own.place == p) both));
    }

-- what is listed stays so
pub listed-same : (old new : List FollowedSpeed) (p : ℕ) → AreSpeedsAsBefore old new → is_listed new p ≡ is_listed old p
listed-same [] [] p same = refl
listed-same [] (b ∷ new) p same = let long = same.long in cc
listed-same (a ∷ old) [] p same = let long = same.long in cc
listed-same (a ∷ old) (b ∷ new) p same =
    let here : IsSpeedAsBefore a b = same.each 0 a (omega arith) in
    let rest : AreSpeedsAsBefore old new = record { long = let long = same.long in omega (arith, long); each = λ k d within. same.each (suc k) d (omega (arith, within)) } in
    ap (λ q. (q == p) || is_listed new p) here.place ∙ ap (λ b. (a.place == p) || b) (listed-same old new p rest)

no_timeline : TimelineValue (ℕ × ℕ)
no_timeline = record { start = (1, 1); changes = []; step = 0 }

pub no_speed : FollowedSpeed
no_speed = record { place = 0; timeline = no_timeline }

-- a listed place has its speed
pub listed-at : (timelines : List FollowedSpeed) (p : ℕ) → is_listed timelines p ≡ true → (k : ℕ) × (k < length timelines) × ((get_or timelines k no_speed).place ≡ p)
listed-at timelines p listed =
    let here = Any-from_list_any (λ (one : FollowedSpeed). one.place == p) timelines listed in
    let is : get_or timelines here.0 no_speed ≡ here.1 = get_or_default timelines here.0 no_speed here.1 here.2 ∙ here.3 in
    (here.0, here.2, ap (λ one. one.place) is ∙ eqb-true here.1.place p here.4)
