-- Whether regions can start: what the test of it decides.
use Rattle.std.specs.Prelude.{Decides, nat_le, slice_index}
use Rattle.std.proofs.Common.{◌≡◌, ℕ, zero, suc, ◌+◌, ◌*◌, ◌<◌, ◌≤◌, true, false, List, length, refl, subst, arith}
use Rattle.std.proofs.lemmas.Bool.Decides.{Decides-and, Decides-like}
use Rattle.fixed_flow.specs.Limits.{most_parts}
use Rattle.step_plan.specs.Total.{demand_from}
use Rattle.network_file.specs.Cells.{is_exit_at, is_gate_at, is_road_at}
use Rattle.network_file.specs.Network.{Network}
use Rattle.network_file.specs.Limits.{most_capacity}
use Rattle.flow_model.specs.Bounds.{IsHeldInBounds, IsRowInBounds, first_at, room_parts_at}
use Rattle.flow_model.specs.State.{row_at}
use Rattle.flow_model.specs.declared.row.Row.{Row}
use Rattle.region_cut.specs.Cuttings.{region_count}
use Rattle.region_cut.specs.Neighbours.{are_neighbours}
use Rattle.region_cut.specs.LawfulSteps.{AreLawful}
use Rattle.region_step.specs.Start.{StartLists}
use Rattle.region_step.specs.Starting.{IsCellInBounds, IsEarlierInBounds, start_of}
use Rattle.step_words.proofs.Neighbours.{neighbour-there}
use Rattle.saved_run.specs.Loading.{CanStart}
use Rattle.saved_run.specs.Startable.{can_have_come, can_have_held, can_have_row, can_have_rows, can_hold, can_stand, can_start, is_balanced}
use Rattle.saved_run.proofs.Deciding.{decides_all, decides_below, decides_eq, decides_if, decides_le, decides_unless}

can_hold-is : (net : Network) (t i n : ℕ) → Decides (can_hold net t i n) (IsHeldInBounds net t i n)
can_hold-is net t i n = Decides-like _
    (λ all. record { road = all.0; gate = all.1.0; exit = all.1.1 })
    (λ is. (is.road, (is.gate, is.exit)))
    (Decides-and _ _ (decides_if (is_road_at net.cells i) _ (decides_le n (room_parts_at net.cells i)))
    (Decides-and _ _ (decides_if (is_gate_at net.cells i) _ (decides_le (n + demand_from net.plan i t net.steps) most_parts))
    (decides_if (is_exit_at net.cells i) _ (decides_le n (t * most_capacity)))))

can_have_held-is : (net : Network) (t i n : ℕ) → Decides (can_have_held net t i n) (IsEarlierInBounds net t i n)
can_have_held-is net zero i n = Decides-like _
    (λ is. record { later = λ t later. absurd (omega (arith, later)); none = λ none. is })
    (λ is. is.none refl)
    (decides_eq n 0)
can_have_held-is net (suc t) i n = Decides-like _
    (λ is. record {
      later = λ u later. let same : t ≡ u = omega (arith, later) in subst (λ v. IsHeldInBounds net v i n) same is;
      none = λ none. absurd (omega (arith, none));
    })
    (λ is. is.later t (omega arith))
    (can_hold-is net t i n)

-- what can have come
abbrev HasCome : Network → (t i come : ℕ) → Type 0
HasCome net t i come =
    (is_road_at net.cells i ≡ true → come ≤ t * most_capacity) × (is_gate_at net.cells i ≡ true → come + demand_from net.plan i t net.steps ≤ most_parts)

can_have_come-is : (net : Network) (t i come : ℕ) → Decides (can_have_come net t i come) (HasCome net t i come)
can_have_come-is net t i come =
    Decides-and _ _ (decides_if (is_road_at net.cells i) _ (decides_le come (t * most_capacity)))
    (decides_if (is_gate_at net.cells i) _ (decides_le (come + demand_from net.plan i t net.steps) most_parts))

-- how the numbers of a row agree
abbrev IsBalanced : Network → (i : ℕ) → Row → Type 0
IsBalanced net i row =
    (is_exit_at net.cells i ≡ true → (row.come ≡ row.n) × ((row.gone ≡ 0) × (row.wait ≡ 0)))
    × (is_exit_at net.cells i ≡ false → row.n + row.gone ≡ first_at net.cells i + row.come)

is_balanced-is : (net : Network) (i : ℕ) (row : Row) → Decides (is_balanced net i row) (IsBalanced net i row)
is_balanced-is net i row =
    Decides-and _ _
    (decides_if (is_exit_at net.cells i) _ (Decides-and _ _ (decides_eq row.come row.n) (Decides-and _ _ (decides_eq row.gone 0) (decides_eq row.wait 0))))
    (decides_unless (is_exit_at net.cells i) _ (decides_eq (row.n + row.gone) (first_at net.cells i + row.come)))

can_have_row-is : (net : Network) (t i : ℕ) (row : Row) → Decides (can_have_row net t i row) (IsRowInBounds net t i row)
can_have_row-is net t i row = Decides-like _
    (λ all. record {
      held = all.0;
      road_come = all.1.0.0;
      gate_come = all.1.0.1;
      exit_come = λ exit. (all.1.1.1.1.0 exit).0;
      exit_gone = λ exit. (all.1.1.1.1.0 exit).1.0;
      exit_wait = λ exit. (all.1.1.1.1.0 exit).1.1;
      gone = all.1.1.0;
      wait = all.1.1.1.0;
      balance = all.1.1.1.1.1;
    })
    (λ is. (is.held, ((is.road_come, is.gate_come), (is.gone, (is.wait, (λ exit. (is.exit_come exit, (is.exit_gone exit, is.exit_wait exit)), is.balance))))))
    (Decides-and _ _ (can_hold-is net t i row.n)
    (Decides-and _ _ (can_have_come-is net t i row.come)
    (Decides-and _ _ (decides_le row.gone (t * most_capacity)) (Decides-and _ _ (decides_le row.wait (t * most_parts)) (is_balanced-is net i row)))))

-- the cells
abbrev HaveRows : Network → (cut : List ℕ) → StartLists → Type 0
HaveRows net cut start =
    (length start.rows ≡ length net.cells) × ((length start.earlier ≡ length net.cells) × ((i : ℕ) → i < length net.cells → IsCellInBounds net cut start i))

can_have_rows-is : (net : Network) (cut : List ℕ) (start : StartLists) → Decides (can_have_rows net cut start) (HaveRows net cut start)
can_have_rows-is net cut start =
    Decides-and _ _ (decides_eq (length start.rows) (length net.cells))
    (Decides-and _ _ (decides_eq (length start.earlier) (length net.cells))
    (decides_below _ (IsCellInBounds net cut start)
    (λ i. Decides-like _ (λ all. record { row = all.0; earlier = all.1 }) (λ is. (is.row, is.earlier))
    (Decides-and _ _ (can_have_row-is net (start_of start cut i) i (row_at start.rows i)) (can_have_held-is net (start_of start cut i) i (slice_index start.earlier i))))
    (length net.cells)))

-- a region stands at most one step ahead of its neighbours
abbrev IsClose : Network → (cut steps : List ℕ) → (r q : ℕ) → Type 0
IsClose net cut steps r q = are_neighbours net.connectors cut r q ≡ true → slice_index steps r ≤ slice_index steps q + 1

can_stand-is : (net : Network) (cut steps : List ℕ) → Decides (can_stand net cut steps) (AreLawful net cut steps)
can_stand-is net cut steps = Decides-like _
    (λ all. record {
      one_each = all.0;
      in_time = all.1.0;
      close = λ r q near. let there = neighbour-there net cut r q near in all.1.1 r there.0 q there.1 near;
    })
    (λ is. (is.one_each, (is.in_time, λ r within q also. is.close r q)))
    (Decides-and _ _ (decides_eq (length steps) (region_count cut))
    (Decides-and _ _ (decides_all (λ step. nat_le step net.steps) (λ step. step ≤ net.steps) (λ step. decides_le step net.steps) steps)
    (decides_below _ (λ r. (q : ℕ) → q < region_count cut → IsClose net cut steps r q)
    (λ r. decides_below _ (IsClose net cut steps r)
    (λ q. decides_if (are_neighbours net.connectors cut r q) _ (decides_le (slice_index steps r) (slice_index steps q + 1))) (region_count cut))
    (region_count cut))))

-- the regions can start
pub can_start-is : (net : Network) (cut : List ℕ) (start : StartLists) → Decides (can_start net cut start) (CanStart net cut start)
can_start-is net cut start = Decides-like _
    (λ all. record {
      fits = record { one_each = all.0.one_each; in_time = all.0.in_time; rows = all.1.0; earlier = all.1.1.0; bounds = all.1.1.1 };
      lawful = all.0;
    })
    (λ is. (is.lawful, (is.fits.rows, (is.fits.earlier, is.fits.bounds))))
    (Decides-and _ _ (can_stand-is net cut start.steps) (can_have_rows-is net cut start))
