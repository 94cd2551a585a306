use Rattle.std.specs.Prelude.{not, ◌==◌}
use Rattle.std.specs.List.{list_any}
use Rattle.std.proofs.Common.{◌≡◌, length, get_or, arith, ap, subst, sym, ◌∙◌}
use Rattle.std.proofs.lemmas.List.{take_all}
use Rattle.network_file.specs.Numbered.{connector_at}
use Rattle.network_file.specs.Sound.{IsNetwork}
use Rattle.region_cut.specs.Cuttings.{region_at}
use Rattle.region_cut.specs.Gathered.{leaves_region}
use Rattle.region_cut.proofs.ConnectorCells.{taken, taken-there}
use Rattle.region_cut.proofs.MetCells.{connectors_of-at, found_leaving, found_leaving-more, found_leaving-none, met_by-is}
use Rattle.region_cut.proofs.met.met.Goals.{then-leaves+in_ok-extend_from_slice, else-leaves}
use Rattle.region_cut.proofs.met.met.Goals as goal

pub index-requires : goal.index-requires
index-requires c =
    let at = connectors_of-at c.args.net.now c.args.cut.now c.args.r c.args.connectors.now c.loop-k.k-index c.requires.list c.loop-k-test.true in
    let connectors : length c.net.inside.connectors.items ≡ length c.args.net.now.connectors = ap (λ net. length net.connectors) c.net.view_is in
    omega (arith, at, connectors, c.net.inside.connectors.ok.0)

pub leaves-requires : goal.leaves-requires
leaves-requires c =
    let there = connectors_of-at c.args.net.now c.args.cut.now c.args.r c.args.connectors.now c.loop-k.k-index c.requires.list c.loop-k-test.true in
    taken-there (taken c.net.invariant c.net.view_is there c.index.ensures c.three_cells-three.ensures.same) c.requires.one_each

pub loop-k-preserved : goal.loop-k-preserved
loop-k-preserved c =
    let there = connectors_of-at c.args.net.now c.args.cut.now c.args.r c.args.connectors.now c.loop-k.k-index c.requires.list c.loop-k-test.true in
    let three = taken c.net.invariant c.net.view_is there c.index.ensures c.three_cells-three.ensures.same in
    let leaves : leaves_region c.args.cut.now c.args.r (connector_at c.args.net.now.connectors (get_or c.args.connectors.now c.loop-k.k-index 0)) ≡ c.leaves.result =
    sym (c.leaves.ensures ∙ three.same (λ i. not (region_at c.args.cut.now i == c.args.r))) in
    elim c.if-leaves.branch [
      | then-leaves+in_ok-extend_from_slice w ↦ λ test.
          rw (w.cells-is, w.in_ok-extend_from_slice.ensures.items) (
          found_leaving-more c.args.net.now c.args.cut.now c.args.r c.args.connectors.now c.loop-k.cells.items c.three_cells-three.result c.loop-k.k-index test
          c.loop-k-test.true (c.loop-k.invariant test) (leaves ∙ w.if-leaves.true) (three.same test)
          )
      | else-leaves w ↦ λ test.
          rw w.cells-is (
          found_leaving-none c.args.net.now c.args.cut.now c.args.r c.args.connectors.now c.loop-k.cells.items c.loop-k.k-index test
          c.loop-k-test.true (c.loop-k.invariant test) (leaves ∙ w.if-leaves.false)
          )
    ]

pub returns : goal.returns
returns c =
    let sound : IsNetwork c.args.net.now = subst IsNetwork c.net.view_is c.net.invariant in
    met_by-is c.args.net.now c.args.cut.now c.args.r c.args.connectors.now c.order.new.list.items sound c.requires.list c.order.ensures.increasing
    (λ test.
    c.order.ensures.same test ∙ c.loop-k.invariant test ∙
    ap (list_any (found_leaving c.args.net.now c.args.cut.now c.args.r test)) (take_all _ c.args.connectors.now (omega arith)))
