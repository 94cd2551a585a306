use Rattle.std.specs.Prelude.{map, replicate}
use Rattle.std.proofs.Common.{◌≡◌, [], length, get_or, arith, ap, subst, ◌∙◌}
use Rattle.std.proofs.lemmas.List.{get_or_default, get_or-replicate}
use Rattle.region_step.specs.Advance.{known}
use Rattle.plain_region.specs.Carrying.{no_change}
use Rattle.plain_region.specs.declared.region_connector.RegionConnector.{RegionConnector}
use Rattle.plain_region.proofs.Carrying.{AreChanged, can_carry, changed-all, changed-more, changed-none}
use Rattle.plain_region.proofs.carry.carry_all.Goals as goal

blank : RegionConnector
blank = record { number = 0; cells = [] }

pub loop-connector-init : goal.loop-connector-init
loop-connector-init c =
    let cleared : c.fill.new.self ≡ replicate (length c.args.changes.now) no_change = c.fill.ensures.after (λ y same. same) in
    let long : length c.fill.new.self ≡ length c.args.cells.now = omega (arith, c.fill.ensures.len, c.requires.one_each) in (
      long,
      changed-none c.args.net.now c.args.t (known c.args.cells.now (map (λ halo. halo.cell) c.args.halo.now) c.args.occupancies.now.rows.now c.args.occupancies.now.put.now) c.args.cells.now
          (map (λ one. one.number) c.args.connectors.now) c.fill.new.self
          (λ p within.
          let here : get_or c.fill.new.self p no_change ≡ no_change =
          ap (λ changes. get_or changes p no_change) cleared ∙ get_or-replicate (length c.args.changes.now) p no_change no_change (omega (arith, within, c.requires.one_each)) in
          (ap (λ change. change.leaves) here, ap (λ change. change.enters) here)),
    )

pub carry-requires-clause-can : goal.carry-requires-clause-can
unfolding blank
carry-requires-clause-can c =
    can_carry c.args.net.now c.args.t c.args.cells.now (map (λ halo. halo.cell) c.args.halo.now) c.args.connectors.now c.args.occupancies.now.rows.now c.args.occupancies.now.put.now
    (get_or c.args.connectors.now c.loop-connector.connector-index blank) c.requires.scene (c.requires.scene.found c.loop-connector.connector-index blank c.loop-connector-test.true)

pub loop-connector-preserved : goal.loop-connector-preserved
unfolding blank
loop-connector-preserved c =
    let one : RegionConnector = get_or c.args.connectors.now c.loop-connector.connector-index blank in
    rw c.carry.ensures (
    changed-more c.args.net.now c.args.t c.args.cells.now (map (λ halo. halo.cell) c.args.halo.now) c.args.connectors.now c.args.occupancies.now.rows.now c.args.occupancies.now.put.now
    c.loop-connector.connector-index one c.loop-connector.changes c.requires.scene c.loop-connector-test.true (get_or_default c.args.connectors.now c.loop-connector.connector-index one blank c.loop-connector-test.true)
    c.loop-connector.invariant.0 c.loop-connector.invariant.1
    )

pub returns-clause-changes : goal.returns-clause-changes
returns-clause-changes c = λ p within.
    changed-all c.args.net.now c.args.t c.args.cells.now (map (λ halo. halo.cell) c.args.halo.now) c.args.connectors.now c.args.occupancies.now.rows.now c.args.occupancies.now.put.now p c.loop-connector.changes
    c.requires.scene within
    (subst (λ j. AreChanged c.args.net.now c.args.t (known c.args.cells.now (map (λ halo. halo.cell) c.args.halo.now) c.args.occupancies.now.rows.now c.args.occupancies.now.put.now) c.args.cells.now
    (map (λ one. one.number) c.args.connectors.now) j c.loop-connector.changes) (omega (arith, c.loop-connector-test.false, c.loop-connector.auto.connector-index-end)) c.loop-connector.invariant.1)
