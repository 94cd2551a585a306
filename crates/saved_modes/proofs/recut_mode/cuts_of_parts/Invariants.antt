use Rattle.std.proofs.Common.{◌≡◌, length}
use Rattle.saved_modes.specs.Recutting.{part_cuttings}
use Rattle.saved_modes.proofs.recut_mode.cuts_of_parts.Given as goal

abbrev pub invariant-loop-i : goal.invariant-loop-i
invariant-loop-i l = l.cuts.items ≡ part_cuttings (length l.net.cells) l.regions l.i
