use Rattle.std.specs.Prelude.{map}
use Rattle.std.proofs.Common.{◌≡◌, length}
use Rattle.region_step.specs.Advance.{known}
use Rattle.plain_region.proofs.Carrying.{AreChanged}
use Rattle.plain_region.proofs.carry.carry_all.Given as goal

abbrev pub invariant-loop-connector : goal.invariant-loop-connector
invariant-loop-connector l =
    (length l.changes ≡ length l.cells) ×
    AreChanged l.net l.t (known l.cells (map (λ halo. halo.cell) l.halo) l.occupancies.rows.now l.occupancies.put.now) l.cells (map (λ one. one.number) l.connectors) l.connector-index l.changes
