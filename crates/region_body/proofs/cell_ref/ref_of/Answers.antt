use Rattle.std.specs.Prelude.{slice_index}
use Rattle.std.proofs.Common.{◌≡◌, ◌<◌, length}
use Rattle.region_cut.proofs.Membership.{place-in}
use Rattle.region_body.proofs.Known.{elsewhere, listed}
use Rattle.region_body.proofs.cell_ref.ref_of.Goals as goal

pub place-requires-clause-listed : goal.place-requires-clause-listed
place-requires-clause-listed c =
    listed c.args.region.now.halo.now c.args.cell
    (elsewhere c.args.region.now.order.now.placed c.args.region.now.halo.now c.args.cell c.requires.known c.in-None.ensures)

pub returns-in-None : goal.returns-in-None
returns-in-None c =
    let halo = c.args.region.now.halo.now in
    let has = elsewhere c.args.region.now.order.now.placed halo c.args.cell c.requires.known c.in-None.ensures in
    let there : (c.place.result < length halo) × (slice_index halo c.place.result ≡ c.args.cell) =
    rw c.place.ensures (place-in halo c.args.cell c.requires.halo_increasing has) in
    record { within = there.0; is = there.1 }
