-- Parts of a row's bounds.
use Rattle.std.specs.Prelude.{◌≡◌, ℕ, ◌+◌, ◌*◌, ◌≤◌, true, false}
use Rattle.fixed_flow.specs.Limits.{most_parts}
use Rattle.step_plan.specs.Total.{demand_from}
use Rattle.network_file.specs.Cells.{is_exit_at, is_gate_at, is_road_at}
use Rattle.network_file.specs.Network.{Network}
use Rattle.network_file.specs.Limits.{most_capacity}
use Rattle.flow_model.specs.Bounds.{first_at}
use Rattle.flow_model.specs.declared.row.Row.{Row}

-- what came into cell i by step t
pub record IsComeInBounds (net : Network) (t i : ℕ) (row : Row) : Type 0 where
  pub road : is_road_at net.cells i ≡ true → row.come ≤ t * most_capacity
  pub gate : is_gate_at net.cells i ≡ true → row.come + demand_from net.plan i t net.steps ≤ most_parts
  pub exit : is_exit_at net.cells i ≡ true → (row.come ≡ row.n) × (row.gone ≡ 0) × (row.wait ≡ 0)

-- what cell i holds, what came and what went
abbrev pub IsRowBalanced : Network → (i : ℕ) → Row → Type 0
IsRowBalanced net i row = is_exit_at net.cells i ≡ false → row.n + row.gone ≡ first_at net.cells i + row.come
