use Rattle.network_file.proofs.ConnectorLemmas.{FitsConnector-link}
use Rattle.network_file.proofs.records.read_link.Goals as goal

pub returns-clause-fits : goal.returns-clause-fits
returns-clause-fits c =
    let up = c.in_ok-up.ensures in
    let down = c.in_ok-down.ensures in
    rw (← c.draft.view_is) (FitsConnector-link _ c.in_ok-up.up c.in_ok-down.down (rw (← c.draft.view_is) at c.requires)
    (up.there, up.sends, up.free) (down.there, down.receives, down.free))
