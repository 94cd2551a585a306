use Rattle.std.proofs.Common.{◌≡◌, ◌<◌, ℕ, true}
use Rattle.std.specs.Prelude.{slice_index_or}
use Rattle.network_file.specs.declared.connector.Connector.{Connector}
use Rattle.monotone_laws.specs.Links.{is_link}
use Rattle.monotone_laws.proofs.links.has_links_alone.Given as goal

abbrev pub invariant-loop-connector : goal.invariant-loop-connector
invariant-loop-connector l = (p : ℕ) (d : Connector) → p < l.connector-index → is_link (slice_index_or l.connector-items p d) ≡ true
