use Rattle.std.specs.Prelude.{◌==◌}
use Rattle.std.specs.List.{Contains, list_any}
use Rattle.std.proofs.Common.{◌≡◌, ℕ, inl, inr, true, List}
use Rattle.region_cut.proofs.HaloPlaces.{not_missing}
use Rattle.region_cut.proofs.Membership.{place-in}
use Rattle.region_body.specs.Joining.{IsKnown}
use Rattle.region_body.proofs.Known.{listed}
use Rattle.plain_region.proofs.region_connector.ref_of.Goals as goal

-- one that is none of its own is one of its halo
other_known : (cells halo : List ℕ) (i : ℕ) → IsKnown cells halo i → (list_any (λ j. j == i) cells ≡ true → ⊥) → Contains halo i
other_known cells halo i known none = elim known [ inl own ↦ absurd (none (listed cells i own)) | inr other ↦ other ]

pub returns-in-Some : goal.returns-in-Some
returns-in-Some c = c.in-Some.ensures

pub place-requires-clause-listed : goal.place-requires-clause-listed
place-requires-clause-listed c =
    listed c.args.halo.now c.args.cell
    (other_known c.args.cells.now c.args.halo.now c.args.cell c.requires.known (not_missing c.args.cells.now c.args.cell c.in-None.ensures))

pub returns-in-None : goal.returns-in-None
returns-in-None c =
    let has = other_known c.args.cells.now c.args.halo.now c.args.cell c.requires.known
    (not_missing c.args.cells.now c.args.cell c.in-None.ensures) in
    rw c.place.ensures (place-in c.args.halo.now c.args.cell c.requires.halo_increasing has)
