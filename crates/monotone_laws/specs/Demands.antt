-- The demands of two networks beside one another.
use Rattle.std.specs.Prelude.{◌≡◌, ℕ, ◌<◌, ◌≤◌, length, true}
use Rattle.step_plan.specs.Demand.{demand_at}
use Rattle.step_plan.specs.Total.{demand_from}
use Rattle.network_file.specs.Cells.{is_gate_at}
use Rattle.network_file.specs.Network.{Network}

-- in each step the same comes to each gate
abbrev pub SameDemands : (one two : Network) → Type 0
SameDemands one two =
    (i t : ℕ) → i < length one.cells → is_gate_at one.cells i ≡ true → t < one.steps → demand_at two.plan i t ≡ demand_at one.plan i t

-- in each step no less comes to each gate of the second
abbrev pub MoreInEachStep : (one two : Network) → Type 0
MoreInEachStep one two =
    (i t : ℕ) → i < length one.cells → is_gate_at one.cells i ≡ true → t < one.steps → demand_at one.plan i t ≤ demand_at two.plan i t

-- by each step no less has come to each gate of the second: the same vehicles may come sooner
abbrev pub MoreByEachStep : (one two : Network) → Type 0
MoreByEachStep one two =
    (i t : ℕ) → i < length one.cells → is_gate_at one.cells i ≡ true → t ≤ one.steps → demand_from one.plan i 0 t ≤ demand_from two.plan i 0 t
