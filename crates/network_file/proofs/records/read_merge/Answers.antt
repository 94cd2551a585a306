use Rattle.std.proofs.Common.{refl}
use Rattle.network_file.proofs.ConnectorLemmas.{FitsConnector-merge}
use Rattle.network_file.proofs.records.read_merge.Goals as goal

pub returns-clause-fits : goal.returns-clause-fits
returns-clause-fits c =
    let up1 = c.in_ok-up1.ensures in
    let up2 = c.in_ok-up2.ensures in
    let down = c.in_ok-down.ensures in
    rw (← c.draft.view_is) (FitsConnector-merge _ c.in_ok-up1.up1 c.in_ok-up2.up2 c.in_ok-down.down c.in_ok-p1.p1 c.in_ok-p1.p2 (rw (← c.draft.view_is) at c.requires)
    (up1.there, up1.sends, up1.free) (up2.there, up2.sends, up2.free) (up2.apart c.in_ok-up1.up1 refl) (down.there, down.receives, down.free)
    c.in_ok-p1.ensures.first c.in_ok-p1.ensures.second)
