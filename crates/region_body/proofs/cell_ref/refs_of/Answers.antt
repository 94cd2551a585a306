use Rattle.std.specs.Prelude.{slice_index}
use Rattle.std.proofs.Common.{◌≡◌, ℕ, zero, suc, ◌<◌, [], ◌∷◌, ap, arith, subst, sym, ◌∙◌}
use Rattle.network_file.specs.Numbered.{connector_at}
use Rattle.network_file.proofs.NetworkFacts.{read_connector}
use Rattle.region_cut.specs.ConnectorCells.{three_cells}
use Rattle.region_body.specs.CellRefs.{IsRefOf, ref_at}
use Rattle.region_body.proofs.Known.{known_cell}
use Rattle.region_body.proofs.cell_ref.refs_of.Goals as goal

pub ref_of-requires-clause-known : goal.ref_of-requires-clause-known
ref_of-requires-clause-known c =
    let read = read_connector c.net.inside.connectors.items c.args.net.now.connectors c.args.k c.index.result.now (ap (λ net. net.connectors) c.net.view_is) c.requires.there c.index.ensures in
    known_cell c.args.region.now.order.now.placed c.args.region.now.halo.now c.three_cells.result (connector_at c.args.net.now.connectors c.args.k) c.index.result.now 0 c.requires.known read c.three_cells.ensures.cells (omega arith)

pub ref_of-requires-2-clause-known : goal.ref_of-requires-2-clause-known
ref_of-requires-2-clause-known c =
    let read = read_connector c.net.inside.connectors.items c.args.net.now.connectors c.args.k c.index.result.now (ap (λ net. net.connectors) c.net.view_is) c.requires.there c.index.ensures in
    known_cell c.args.region.now.order.now.placed c.args.region.now.halo.now c.three_cells.result (connector_at c.args.net.now.connectors c.args.k) c.index.result.now 1 c.requires.known read c.three_cells.ensures.cells (omega arith)

pub ref_of-requires-3-clause-known : goal.ref_of-requires-3-clause-known
ref_of-requires-3-clause-known c =
    let read = read_connector c.net.inside.connectors.items c.args.net.now.connectors c.args.k c.index.result.now (ap (λ net. net.connectors) c.net.view_is) c.requires.there c.index.ensures in
    known_cell c.args.region.now.order.now.placed c.args.region.now.halo.now c.three_cells.result (connector_at c.args.net.now.connectors c.args.k) c.index.result.now 2 c.requires.known read c.three_cells.ensures.cells (omega arith)

pub returns : goal.returns
returns c =
    let read = read_connector c.net.inside.connectors.items c.args.net.now.connectors c.args.k c.index.result.now (ap (λ net. net.connectors) c.net.view_is) c.requires.there c.index.ensures in
    at (c.three_cells.ensures.cells ∙ ap three_cells (sym read))
  where
    at : c.three_cells.result ≡ three_cells (connector_at c.args.net.now.connectors c.args.k) → (m : ℕ) → m < 3 →
        IsRefOf c.args.region.now.order.now.placed c.args.region.now.halo.now (slice_index (three_cells (connector_at c.args.net.now.connectors c.args.k)) m)
        (ref_at (c.ref_of.result ∷ c.ref_of-2.result ∷ c.ref_of-3.result ∷ []) m)
    at three zero few = subst (λ cs. IsRefOf c.args.region.now.order.now.placed c.args.region.now.halo.now (slice_index cs 0) c.ref_of.result) three c.ref_of.ensures
    at three (suc zero) few = subst (λ cs. IsRefOf c.args.region.now.order.now.placed c.args.region.now.halo.now (slice_index cs 1) c.ref_of-2.result) three c.ref_of-2.ensures
    at three (suc (suc zero)) few = subst (λ cs. IsRefOf c.args.region.now.order.now.placed c.args.region.now.halo.now (slice_index cs 2) c.ref_of-3.result) three c.ref_of-3.ensures
    at three (suc (suc (suc m))) few = absurd (omega arith)
