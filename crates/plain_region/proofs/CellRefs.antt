-- What a cell of a connector holds.
use Rattle.std.specs.Prelude.{Option}
use Rattle.std.proofs.Common.{◌≡◌, ℕ, List, sym, ap, ◌∙◌}
use Rattle.flow_model.specs.declared.row.Row.{Row}
use Rattle.region_step.specs.Advance.{known}
use Rattle.region_step.specs.Apart.{AreApart}
use Rattle.region_step.proofs.Places.{known-halo, known-own}
use Rattle.plain_region.specs.Carrying.{held_in}
use Rattle.plain_region.specs.RegionConnectors.{IsRefOf}
use Rattle.plain_region.specs.declared.cell_ref.CellRef.{CellRef}
use Rattle.plain_region.specs.declared.cell_ref.CellRef.TheVariants.{Own, Halo}

pub held_in-known : (cells halo : List ℕ) (rows : List Row) (put : List (Option ℕ)) (i : ℕ) (cell : CellRef) → AreApart cells halo → IsRefOf cells halo i cell →
    held_in rows put cell ≡ known cells halo rows put i
held_in-known cells halo rows put i (Own p) apart (there, is) = sym (known-own cells halo rows put p apart there) ∙ ap (known cells halo rows put) is
held_in-known cells halo rows put i (Halo p) apart (there, is) = sym (known-halo cells halo rows put p apart there) ∙ ap (known cells halo rows put) is
