use Rattle.std.proofs.Common.{rules, arith, ◌∙◌, ◌+◌, slice_index}
use Rattle.traffic_laws.specs.Area.{area_between}
use Rattle.traffic_laws.proofs.Areas.{area_under-more, never-cross, wait-of-cell}
use Rattle.traffic_laws.proofs.Waits.{wait-of-parts}
use Rattle.traffic_laws.proofs.area.wait_area.Goals as goal

pub loop-s-preserved : goal.loop-s-preserved
loop-s-preserved c =
    let arrivals = area_under-more (λ s. c.args.first + slice_index c.args.come.now s) c.loop-s.s in
    let departures = area_under-more (λ s. slice_index c.args.gone.now (s + 1)) c.loop-s.s in
    record {
      arrived = omega (arith, arrivals, c.loop-s.invariant.arrived, c.from.ensures, c.from-in-loop-s.ensures);
      departed = omega (arith, departures, c.loop-s.invariant.departed, c.from-departed.ensures);
      fits_arrived = omega arith;
      fits_departed = omega arith;
    }

pub returns-clause-area : goal.returns-clause-area
unfolding area_between
returns-clause-area c = search rules

pub returns-clause-wait : goal.returns-clause-wait
returns-clause-wait c = λ net i curves.
    returns-clause-area c ∙ wait-of-cell c.args.first c.args.come.now c.args.gone.now net i curves

pub returns-clause-parts : goal.returns-clause-parts
returns-clause-parts c = λ net i curves.
    returns-clause-area c ∙ wait-of-parts c.args.first c.args.come.now c.args.gone.now net i curves

pub returns-clause-never_cross : goal.returns-clause-never_cross
returns-clause-never_cross c = never-cross c.args.first c.args.come.now c.args.gone.now
