use Rattle.std.proofs.Common.{◌+◌, ◌≡◌, refl, sym, ap, ◌∙◌, add-one, length, arith}
use Rattle.cell_sweep.specs.SpeedZones.{end_before}
use Rattle.cell_sweep.proofs.AtSpeeds.{few-asked, few-in, free-before, free-behind}
use Rattle.cell_sweep.proofs.Swept.{swept-none}
use Rattle.cell_sweep.proofs.sweep_zones.sweep_zones.Goals as goal

pub loop-zone-init : goal.loop-zone-init
loop-zone-init c = record {
  at = refl;
  swept = swept-none c.args.states.now c.args.speeds.now c.args.before.now c.requires.sound (omega (arith, c.requires.within));
}

pub sweep_fours-flow-requires-clause-swept : goal.sweep_fours-flow-requires-clause-swept
sweep_fours-flow-requires-clause-swept c =
    let first = c.args.states.now in
    let speeds = c.args.speeds.now in
    let at = c.loop-zone.invariant.at in (
      first,
      speeds,
      c.loop-zone.invariant.swept,
      λ p from before. free-before first speeds c.args.zones.now c.loop-zone.zone-index c.requires.can c.loop-zone-test.true p (omega (arith, from, at)) before,
    )

pub sweep_zone-flow-requires-clause-swept : goal.sweep_zone-flow-requires-clause-swept
sweep_zone-flow-requires-clause-swept c =
    let first = c.args.states.now in
    let speeds = c.args.speeds.now in
    let zones = c.args.zones.now in
    let at = c.loop-zone.invariant.at in (
      first,
      c.sweep_fours-flow.ensures first speeds c.loop-zone.invariant.swept
          (λ p from before. free-before first speeds zones c.loop-zone.zone-index c.requires.can c.loop-zone-test.true p (omega (arith, from, at)) before),
      few-in first speeds zones c.loop-zone.zone-index c.requires.can c.loop-zone-test.true,
    )

pub loop-zone-preserved : goal.loop-zone-preserved
loop-zone-preserved c =
    let first = c.args.states.now in
    let speeds = c.args.speeds.now in
    let zones = c.args.zones.now in
    let at = c.loop-zone.invariant.at in
    record {
      at = sym (ap (end_before zones) (add-one c.loop-zone.zone-index));
      swept = c.sweep_zone-flow.ensures first (
          c.sweep_fours-flow.ensures first speeds c.loop-zone.invariant.swept
          (λ p from before. free-before first speeds zones c.loop-zone.zone-index c.requires.can c.loop-zone-test.true p (omega (arith, from, at)) before)
          );
    }

pub sweep_fours-flow-requires-2-clause-swept : goal.sweep_fours-flow-requires-2-clause-swept
sweep_fours-flow-requires-2-clause-swept c =
    let first = c.args.states.now in
    let speeds = c.args.speeds.now in
    let zones = c.args.zones.now in
    let all : c.loop-zone.zone-index ≡ length zones = omega (arith, c.loop-zone.auto.zone-index-end, c.loop-zone-test.false) in
    let at = c.loop-zone.invariant.at ∙ ap (end_before zones) all in (
      first,
      speeds,
      c.loop-zone.invariant.swept,
      λ p from before. free-behind first speeds zones c.requires.can p (omega (arith, from, at)) (omega (arith, before, c.requires.within)),
    )

pub loop-p-init : goal.loop-p-init
loop-p-init c =
    let first = c.args.states.now in
    let speeds = c.args.speeds.now in
    let zones = c.args.zones.now in
    let all : c.loop-zone.zone-index ≡ length zones = omega (arith, c.loop-zone.auto.zone-index-end, c.loop-zone-test.false) in
    let at = c.loop-zone.invariant.at ∙ ap (end_before zones) all in
    c.sweep_fours-flow-2.ensures first speeds c.loop-zone.invariant.swept
    (λ p from before. free-behind first speeds zones c.requires.can p (omega (arith, from, at)) (omega (arith, before, c.requires.within)))

pub slowed_one-flow-requires-clause-swept : goal.slowed_one-flow-requires-clause-swept
slowed_one-flow-requires-clause-swept c =
    let first = c.args.states.now in
    let p = c.loop-p.p in (
      first,
      c.loop-p.invariant,
      few-asked first c.args.speeds.now c.args.zones.now p (p + 1) c.requires.can (omega (arith, c.requires.within, c.loop-p-test.true, c.loop-p.auto.p-end)),
    )
