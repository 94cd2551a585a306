use Rattle.std.proofs.Common.{◌≡◌, ◌≤◌, arith, subst, sym, ap, ◌∙◌}
use Rattle.network_file.specs.Limits.{most_capacity}
use Rattle.network_file.specs.Sound.{IsNetwork}
use Rattle.flow_model.proofs.CellLimits.{capacity_at-le}
use Rattle.traffic_laws.specs.Bottleneck.{IsRateTimesGreenSteps, IsRateTimesSteps, PassesAllWhereFed, PassesAtMost, green_capacity, green_capacity_over}
use Rattle.traffic_laws.proofs.Bottlenecks.{green_capacity-le, green_capacity_over-green_rate, green_capacity_over-more, green_capacity_over-none, green_capacity_over-rate, passes-all, passes-at-most}
use Rattle.traffic_laws.proofs.bottleneck.most_passed.Goals as goal

pub loop-t-init : goal.loop-t-init
loop-t-init c = record {
  inside = omega arith;
  most = sym (green_capacity_over-none c.args.net.now c.args.cell c.args.from);
  fits = omega arith;
}

capacity_is : (c : goal.After-green_capacity-most) →
    c.green_capacity-most.result ≡ green_capacity c.args.net.now.plan c.args.cell c.loop-t.t
capacity_is c = c.green_capacity-most.ensures ∙ ap (λ net. green_capacity net.plan c.args.cell c.loop-t.t) c.net.view_is

capacity_fits : (c : goal.After-green_capacity-most) → c.green_capacity-most.result ≤ most_capacity
capacity_fits c =
    omega (
      arith,
      capacity_is c,
      green_capacity-le c.args.net.now.plan c.args.cell c.loop-t.t,
      capacity_at-le c.args.net.now c.loop-t.t c.args.cell (subst IsNetwork c.net.view_is c.net.invariant) c.requires.has_cell,
    )

pub overflow_add-most : goal.overflow_add-most
overflow_add-most c =
    let sound = subst IsNetwork c.net.view_is c.net.invariant in
    omega (arith, c.loop-t.invariant.fits, capacity_fits c, sound.few_steps, c.requires.in_time)

pub loop-t-preserved : goal.loop-t-preserved
loop-t-preserved c =
    let more = green_capacity_over-more c.args.net.now c.args.cell c.args.from c.loop-t.t c.loop-t.invariant.inside in
    record {
      inside = omega (arith, c.loop-t.invariant.inside);
      most = omega (arith, more, c.loop-t.invariant.most, capacity_is c);
      fits = omega (arith, c.loop-t.invariant.fits, capacity_fits c);
    }

pub returns-clause-capacities : goal.returns-clause-capacities
returns-clause-capacities c =
    let last : c.loop-t.t ≡ c.args.to = omega arith in
    c.loop-t.invariant.most ∙ ap (green_capacity_over c.args.net.now c.args.cell c.args.from) last

pub returns-clause-rate : goal.returns-clause-rate
returns-clause-rate c =
    subst (IsRateTimesSteps c.args.net.now c.args.cell c.args.from c.args.to) (sym (returns-clause-capacities c))
    (green_capacity_over-rate c.args.net.now c.args.cell c.args.from c.args.to c.requires.range)

pub returns-clause-green_rate : goal.returns-clause-green_rate
returns-clause-green_rate c =
    subst (IsRateTimesGreenSteps c.args.net.now c.args.cell c.args.from c.args.to) (sym (returns-clause-capacities c))
    (green_capacity_over-green_rate c.args.net.now c.args.cell c.args.from c.args.to c.requires.range)

pub returns-clause-most : goal.returns-clause-most
returns-clause-most c =
    subst (PassesAtMost c.args.net.now c.args.cell c.args.from c.args.to) (sym (returns-clause-capacities c))
    (passes-at-most c.args.net.now c.args.cell c.args.from c.args.to (subst IsNetwork c.net.view_is c.net.invariant) c.requires.has_cell c.requires.range)

pub returns-clause-all : goal.returns-clause-all
returns-clause-all c =
    subst (PassesAllWhereFed c.args.net.now c.args.cell c.args.from c.args.to) (sym (returns-clause-capacities c))
    (passes-all c.args.net.now c.args.cell c.args.from c.args.to (subst IsNetwork c.net.view_is c.net.invariant) c.requires.has_cell c.requires.range)
