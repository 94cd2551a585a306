use Rattle.std.specs.Prelude.{All, ◌⊎◌}
use Rattle.std.proofs.Common.{◌≡◌, ◌≤◌, take}
use Rattle.cell_sweep.specs.CellStates.{cell_state_at}
use Rattle.region_body.proofs.pause.links_until.Given as goal

abbrev pub invariant-loop-link : goal.invariant-loop-link
invariant-loop-link l = All (λ link. (cell_state_at l.states link.place).n ≡ 0 ⊎ l.until ≤ link.until) (take l.link-index l.links)
