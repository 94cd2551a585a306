use Rattle.std.proofs.Common.{length, sym, ap, subst, arith}
use Rattle.std.proofs.lemmas.List.FromFn.{length-map-range_with_len}
use Rattle.saved_modes.specs.Recutting.{part_cutting}
use Rattle.saved_modes.proofs.RecutParts.{AreOneEach, cuttings-one_each}
use Rattle.saved_modes.proofs.recut_mode.report_in_parts.Goals as goal

pub recut_report-requires-clause-some : goal.recut_report-requires-clause-some
recut_report-requires-clause-some g c = λ lifetimes outlive.
    omega (arith, ap length c.in_ok-cuts.ensures, length-map-range_with_len (part_cutting (length c.args.net.now.cells) c.regions_wanted-regions.result) 1 c.args.request.parts, c.requires.parts.0)

pub recut_report-requires-clause-few : goal.recut_report-requires-clause-few
recut_report-requires-clause-few g c = λ lifetimes outlive.
    omega (arith, ap length c.in_ok-cuts.ensures, length-map-range_with_len (part_cutting (length c.args.net.now.cells) c.regions_wanted-regions.result) 1 c.args.request.parts, c.requires.parts.1)

pub recut_report-requires-clause-one_each : goal.recut_report-requires-clause-one_each
recut_report-requires-clause-one_each g c = λ lifetimes outlive.
    subst (AreOneEach (length c.args.net.now.cells)) (sym c.in_ok-cuts.ensures) (cuttings-one_each (length c.args.net.now.cells) c.regions_wanted-regions.result c.args.request.parts)

pub returns-clause-told : goal.returns-clause-told
returns-clause-told g c = λ done. rw (c.in_ok-cuts.ensures, c.regions_wanted-regions.ensures.wanted) at (c.recut_report.ensures.told done)
