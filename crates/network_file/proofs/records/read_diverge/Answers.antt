use Rattle.std.proofs.Common.{refl}
use Rattle.network_file.proofs.ConnectorLemmas.{FitsConnector-diverge}
use Rattle.network_file.proofs.records.read_diverge.Goals as goal

pub returns-clause-fits : goal.returns-clause-fits
returns-clause-fits c =
    let up = c.in_ok-up.ensures in
    let down1 = c.in_ok-down1.ensures in
    let down2 = c.in_ok-down2.ensures in
    rw (← c.draft.view_is) (FitsConnector-diverge _ c.in_ok-up.up c.in_ok-down1.down1 c.in_ok-down2.down2 c.in_ok-b1.b1 c.in_ok-b1.b2 (rw (← c.draft.view_is) at c.requires)
    (up.there, up.sends, up.free) (down1.there, down1.receives, down1.free) (down2.there, down2.receives, down2.free) (down2.apart c.in_ok-down1.down1 refl)
    c.in_ok-b1.ensures.first c.in_ok-b1.ensures.second)
