use Rattle.std.proofs.Common.{◌≡◌, ◌<◌, ℕ, true, length, get_or, subst, sym, arith}
use Rattle.std.proofs.lemmas.List.{get_or_default, take_all}
use Rattle.region_body.specs.FollowedSpeeds.{is_listed}
use Rattle.region_body.specs.declared.followed_speed.FollowedSpeed.{FollowedSpeed}
use Rattle.region_body.proofs.SpeedTimelines.{written-more}
use Rattle.region_body.proofs.followed_speed.follow_all_speeds.Goals as goal

pub loop-m-preserved : goal.loop-m-preserved
loop-m-preserved c =
    let timelines = c.loop-m.timelines in
    let j : ℕ = c.loop-m.m in
    let old : FollowedSpeed = get_or timelines j c.index-timelines-m-in-loop-m.result in
    let within : j < length timelines = omega arith in
    let there = c.loop-m.invariant.there j c.index-timelines-m-in-loop-m.result within in
    let until = c.min-until.ensures in
    rw (get_or_default timelines j c.index-timelines-m.result c.index-timelines-m-in-loop-m.result within)
    (written-more c.args.timelines.now timelines c.args.speeds.now c.loop-m.speeds c.args.t c.loop-m.until c.min-until.result j old c.follow_speed.new.one c.follow_speed.new.speed
    c.loop-m.invariant (record {
      within = within;
      read = λ d. get_or_default timelines j d c.index-timelines-m-in-loop-m.result within;
      there = there.place;
      step = omega (arith, c.follow_speed.ensures.step);
      as_before = c.follow_speed.ensures.as_before;
      later = omega (arith, until, c.follow_speed.ensures.later, c.loop-m.invariant.later);
      after_is = λ s from before. c.follow_speed.ensures.steady s from (omega (arith, until, before));
    }) (omega (arith, until)))

pub returns-clause-in_force : goal.returns-clause-in_force
returns-clause-in_force c = λ speed are p listed s from before.
    c.loop-m.invariant.in_force speed are p
    (subst (λ list. is_listed list p ≡ true) (sym (take_all c.loop-m.m c.args.timelines.now (omega (arith, c.loop-m-test.false, c.loop-m.invariant.as_before.long)))) listed)
    s from before
