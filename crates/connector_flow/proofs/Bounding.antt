-- What bounds the flow of a connector, by what it is made of.
use Rattle.std.specs.Prelude.{Option, Some, None}
use Rattle.std.proofs.Common.{◌≡◌, ℕ, ◌<◌, ◌≤◌, refl, sym, ◌∙◌, arith}
use Rattle.timelines.specs.Timelines.{IsSteady, value_at}
use Rattle.step_plan.specs.Limits.{most_steps}
use Rattle.timelines.specs.Cells.{cell_most}
use Rattle.connector_flow.specs.Limits.{AreInForce, AreKept, HaveTimelinesCome, limits_of_timelines, limits_in, moved_to}
use Rattle.connector_flow.specs.Weights.{AreWeights}
use Rattle.connector_flow.specs.declared.limit_timelines.LimitTimelines.{LimitTimelines}
use Rattle.connector_flow.specs.declared.limits.Limits.{Limits}

pub limits-are : (timelines : LimitTimelines) (limits : Limits) (t : ℕ) → limits.first ≡ cell_most timelines.first t → limits.second ≡ cell_most timelines.second t →
    limits.third ≡ cell_most timelines.third t → limits.weights ≡ value_at timelines.weights t → limits ≡ limits_of_timelines timelines t
unfolding limits_of_timelines
limits-are timelines limits t first second third weights = rw (← first, ← second, ← third, ← weights) refl

pub limits-same : (timelines : LimitTimelines) (s t : ℕ) → cell_most timelines.first s ≡ cell_most timelines.first t →
    cell_most timelines.second s ≡ cell_most timelines.second t → cell_most timelines.third s ≡ cell_most timelines.third t →
    value_at timelines.weights s ≡ value_at timelines.weights t → limits_of_timelines timelines s ≡ limits_of_timelines timelines t
unfolding limits_of_timelines
limits-same timelines s t first second third weights = rw (first, second, third, weights) refl

-- the steps that were come to have no part in them
pub limits-moved : (timelines : LimitTimelines) (t s : ℕ) → limits_of_timelines (moved_to timelines t) s ≡ limits_of_timelines timelines s
unfolding limits_of_timelines cell_most
limits-moved timelines t s = refl

pub weights-moved : (timelines : LimitTimelines) (t : ℕ) → AreWeights timelines.weights → AreWeights (moved_to timelines t).weights
weights-moved timelines t within = within

pub come-moved : (timelines : LimitTimelines) (t : ℕ) → HaveTimelinesCome (moved_to timelines t) t
come-moved timelines t = record {
  first = omega arith;
  second = omega arith;
  third = omega arith;
  weights = omega arith;
}

-- what is in force once they have come to step t
pub in_force-moved : (timelines : LimitTimelines) (limits : Limits) (t until : ℕ) → limits ≡ limits_of_timelines timelines t → IsSteady (limits_of_timelines timelines) t until → t < until →
    AreWeights timelines.weights → AreInForce (moved_to timelines t) limits t until
in_force-moved timelines limits t until is steady later weights = record {
  steady = λ s from within. limits-moved timelines t s ∙ steady s from within ∙ sym is;
  later = later;
  come = come-moved timelines t;
  weights = weights-moved timelines t weights;
}

-- where nothing changes by step t it stays in force
pub in_force-later : (timelines : LimitTimelines) (limits : Limits) (step t until : ℕ) → AreInForce timelines limits step until → step ≤ t → t < until →
    AreInForce timelines limits t until
in_force-later timelines limits step t until has forward before =
    let come = has.come in
    record {
      steady = λ s from within. has.steady s (omega arith) within;
      later = before;
      come = record {
        first = omega (arith, come.first);
        second = omega (arith, come.second);
        third = omega (arith, come.third);
        weights = omega (arith, come.weights);
      };
      weights = has.weights;
    }

-- what is kept is in force at its step
pub kept-limits : (timelines : Option LimitTimelines) (limits : Limits) (step until : ℕ) → AreKept timelines limits step until → limits_in timelines limits step ≡ limits
unfolding limits_in
kept-limits None limits step until has = refl
kept-limits (Some timelines) limits step until has = has.steady step (omega arith) has.later

-- and later, where nothing changes by then
pub kept-later : (timelines : Option LimitTimelines) (limits : Limits) (step t until : ℕ) → AreKept timelines limits step until → step ≤ t → t < until →
    AreKept timelines limits t until
kept-later None limits step t until has forward before = has
kept-later (Some timelines) limits step t until has forward before = in_force-later timelines limits step t until has forward before

pub kept-lasting : (timelines : Option LimitTimelines) (limits : Limits) (step t until : ℕ) → timelines ≡ None → AreKept timelines limits step until → t ≤ most_steps →
    AreKept timelines limits t until
kept-lasting None limits step t until none has in_time = has
kept-lasting (Some timelines) limits step t until none has in_time = cc

-- where no timelines are kept they stay past the last step
pub kept-never : (timelines : Option LimitTimelines) (limits : Limits) (step until : ℕ) → timelines ≡ None → AreKept timelines limits step until → most_steps < until
kept-never None limits step until none has = has
kept-never (Some timelines) limits step until none has = absurd cc

-- the limits in each step are the same once they have come to step t
pub limits_in-moved : (timelines : LimitTimelines) (old new : Limits) (t s : ℕ) → limits_in (Some (moved_to timelines t)) new s ≡ limits_in (Some timelines) old s
unfolding limits_in
limits_in-moved timelines old new t s = limits-moved timelines t s
