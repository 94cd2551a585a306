use Rattle.std.specs.Prelude.{map}
use Rattle.std.proofs.Common.{◌≡◌, ◌++◌}
use Rattle.net_make.specs.Made.{connector_line, main_cells, text_of}
use Rattle.net_make.proofs.connectors.put_connectors.Given as goal

-- the lines of the connectors from the main cells before i
abbrev pub invariant-loop-i : goal.invariant-loop-i
invariant-loop-i l = l.text.items ≡ l.initial.text.items ++ text_of (map (connector_line l.size) (main_cells l.i))
