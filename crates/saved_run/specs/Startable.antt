-- Whether the regions of a network can start: at these steps, with these rows, and with what their cells held a step before.
use Rattle.std.specs.Prelude.{ℕ, zero, suc, ◌+◌, ◌*◌, Bool, not, ◌==◌, ◌&&◌, ◌||◌, nat_le, List, length, slice_index}
use Rattle.std.specs.List.{list_all, range_with_len}
use Rattle.fixed_flow.specs.Limits.{most_parts}
use Rattle.step_plan.specs.Total.{demand_from}
use Rattle.network_file.specs.Cells.{is_exit_at, is_gate_at, is_road_at}
use Rattle.network_file.specs.Limits.{most_capacity}
use Rattle.network_file.specs.Network.{Network}
use Rattle.flow_model.specs.Bounds.{first_at, room_parts_at}
use Rattle.flow_model.specs.State.{row_at}
use Rattle.flow_model.specs.declared.row.Row.{Row}
use Rattle.region_cut.specs.Cuttings.{region_count}
use Rattle.region_cut.specs.Neighbours.{are_neighbours}
use Rattle.region_step.specs.Start.{StartLists}
use Rattle.region_step.specs.Starting.{start_of}

-- cell i can hold so much at step t: a road no more than its room, a gate so much that its demand still to come fits in, and an
-- exit no more than can have come
abbrev pub can_hold : Network → (t i n : ℕ) → Bool
can_hold net t i n =
    (not (is_road_at net.cells i) || nat_le n (room_parts_at net.cells i))
    && ((not (is_gate_at net.cells i) || nat_le (n + demand_from net.plan i t net.steps) most_parts)
    && (not (is_exit_at net.cells i) || nat_le n (t * most_capacity)))

-- cell i can have held so much a step before step t: before step 0 there was nothing
abbrev pub can_have_held : Network → (t i n : ℕ) → Bool
can_have_held net zero i n = n == 0
can_have_held net (suc t) i n = can_hold net t i n

-- so much can have come into cell i by step t
abbrev pub can_have_come : Network → (t i come : ℕ) → Bool
can_have_come net t i come =
    (not (is_road_at net.cells i) || nat_le come (t * most_capacity))
    && (not (is_gate_at net.cells i) || nat_le (come + demand_from net.plan i t net.steps) most_parts)

-- the numbers of the row agree: an exit holds all that came into it, and nothing has gone out of it or waited in it; any other
-- cell holds what it held at first and what came, less what went
abbrev pub is_balanced : Network → (i : ℕ) → Row → Bool
is_balanced net i row =
    (not (is_exit_at net.cells i) || ((row.come == row.n) && ((row.gone == 0) && (row.wait == 0))))
    && (is_exit_at net.cells i || (row.n + row.gone == first_at net.cells i + row.come))

-- cell i can have this row at step t
abbrev pub can_have_row : Network → (t i : ℕ) → Row → Bool
can_have_row net t i row =
    can_hold net t i row.n
    && (can_have_come net t i row.come
    && (nat_le row.gone (t * most_capacity) && (nat_le row.wait (t * most_parts) && is_balanced net i row)))

-- each cell can have its row, and can have held what it held a step before
abbrev pub can_have_rows : Network → (cut : List ℕ) → StartLists → Bool
can_have_rows net cut start =
    (length start.rows == length net.cells)
    && ((length start.earlier == length net.cells)
    && list_all (λ i. can_have_row net (start_of start cut i) i (row_at start.rows i) && can_have_held net (start_of start cut i) i (slice_index start.earlier i))
    (range_with_len 0 (length net.cells)))

-- no region stands past the last step, or more than one step past a neighbour
abbrev pub can_stand : Network → (cut steps : List ℕ) → Bool
can_stand net cut steps =
    (length steps == region_count cut)
    && (list_all (λ step. nat_le step net.steps) steps
    && list_all (λ r. list_all (λ q. not (are_neighbours net.connectors cut r q) || nat_le (slice_index steps r) (slice_index steps q + 1))
    (range_with_len 0 (region_count cut))) (range_with_len 0 (region_count cut)))

-- the regions can start so
abbrev pub can_start : Network → (cut : List ℕ) → StartLists → Bool
can_start net cut start = can_stand net cut start.steps && can_have_rows net cut start
