use Rattle.std.proofs.Common.{sym}
use Rattle.region_cut.proofs.HaloPlaces.{not_missing}
use Rattle.region_cut.proofs.Increasing.{position_is}
use Rattle.region_cut.proofs.list_place.place.Goals as goal

pub returns-in-Some : goal.returns-in-Some
returns-in-Some c =
    let here = c.in-Some.ensures in
    sym (position_is c.args.list.now c.in-Some.place c.args.number c.requires.increasing here.0 here.1)

pub returns-in-None : goal.returns-in-None
returns-in-None c = absurd (not_missing c.args.list.now c.args.number c.in-None.ensures c.requires.listed)
