-- Two networks that agree below step u are in the same state up to it, so that what was saved of the one by then is a true start of the other.
use Rattle.std.specs.Prelude.{All, if◌then◌else◌, map, slice_index, sum_by}
use Rattle.std.specs.List.{range_with_len}
use Rattle.std.proofs.Common.{◌≡◌, ℕ, zero, suc, ◌<◌, ◌≤◌, List, length, refl, sym, ap, subst, ◌∙◌, arith}
use Rattle.network_file.specs.Cells.{is_gate_at}
use Rattle.network_file.specs.Connectors.{cells_of}
use Rattle.network_file.specs.Network.{Network}
use Rattle.network_file.specs.Sound.{IsNetwork}
use Rattle.network_file.specs.declared.connector.Connector.{Connector}
use Rattle.network_file.specs.declared.connector.Connector.TheVariants.{Link, Merge, Diverge}
use Rattle.flow_model.specs.Bounds.{IsHeldInBounds, IsRowInBounds}
use Rattle.flow_model.specs.Flows.{entering, flow_between, flow_of, inflow, leaving, outflow}
use Rattle.flow_model.specs.Limits.{receiving_at, room_at, sending_at}
use Rattle.flow_model.specs.Rows.{moved_row, next_row}
use Rattle.flow_model.specs.State.{next_rows, occupancy, row_at, state_at}
use Rattle.flow_model.specs.declared.row.Row.{Row}
use Rattle.flow_model.proofs.States.{first_row, state_at-in_bounds}
use Rattle.region_cut.specs.Cuttings.{region_at, region_count}
use Rattle.region_cut.specs.Neighbours.{are_neighbours}
use Rattle.region_cut.specs.CutFaults.{cut_of}
use Rattle.region_cut.proofs.Cuttings.{at-le-greatest}
use Rattle.region_step.specs.Start.{StartLists, zero_start}
use Rattle.region_step.specs.Starting.{IsTrueStart, start_of}
use Rattle.region_step.proofs.Grids.{are_the_recurrences, grid_held-started}
use Rattle.region_step.proofs.StartLaws.{zeros}
use Rattle.snapshot.specs.Rooms.{RoomValue}
use Rattle.saved_run.specs.Content.{Content}
use Rattle.saved_run.specs.Futures.{AgreeBelow, IsEdited, IsMoment, edited_content}
use Rattle.saved_run.specs.Laws.{HasTrueStart, IsTrueShot}
use Rattle.saved_run.specs.Loading.{CanStart, cutting_in, start_in}
use Rattle.saved_run.specs.Shown.{content_shown}
use Rattle.saved_run.proofs.Starts.{held_before, shot-has_true_start}

module _ (net other : Network) (u : ℕ) (agree : AgreeBelow net other u) where
  sending-same : (t i n : ℕ) → t < u → sending_at other t i n ≡ sending_at net t i n
  unfolding sending_at
  sending-same t i n below =
      let capacity = agree.capacities i t below in
      let light = agree.lights i t below in
      let speed = agree.speeds i t below in
      rw (capacity, light, speed) refl

  receiving-same : (t i n : ℕ) → t < u → receiving_at other t i n ≡ receiving_at net t i n
  unfolding receiving_at
  receiving-same t i n below = let capacity = agree.capacities i t below in let room = ap (λ cells. room_at cells i) agree.cells in rw (capacity, room) refl

  between-same : (t : ℕ) (connector : Connector) (held : List ℕ) → t < u → flow_between other t connector held ≡ flow_between net t connector held
  between-same t (Link up down) held below =
      rw (sending-same t up (slice_index held 0) below, receiving-same t down (slice_index held 1) below) refl
  between-same t (Merge up1 up2 down p1 p2) held below =
      rw (sending-same t up1 (slice_index held 0) below, sending-same t up2 (slice_index held 1) below, receiving-same t down (slice_index held 2) below) refl
  between-same t (Diverge up down1 down2 b1 b2) held below =
      rw (
        sending-same t up (slice_index held 0) below,
        receiving-same t down1 (slice_index held 1) below,
        receiving-same t down2 (slice_index held 2) below,
        agree.shares up t (b1, b2) below,
      ) refl

  flow-same : (t : ℕ) (n : ℕ → ℕ) (connector : Connector) → t < u → flow_of other t n connector ≡ flow_of net t n connector
  unfolding flow_of
  flow-same t n connector below = between-same t connector (map n (cells_of connector)) below

  outflow-same : (t : ℕ) (n : ℕ → ℕ) (i : ℕ) → t < u → outflow other t n i ≡ outflow net t n i
  unfolding outflow
  outflow-same t n i below = λ j. sum_by (λ connector. leaving i connector (flow-same t n connector below j)) (agree.connectors j)

  inflow-same : (t : ℕ) (n : ℕ → ℕ) (i : ℕ) → t < u → inflow other t n i ≡ inflow net t n i
  unfolding inflow
  inflow-same t n i below = λ j.
      if is_gate_at (agree.cells j) i then agree.demands i t below j
      else sum_by (λ connector. entering i connector (flow-same t n connector below j)) (agree.connectors j)

  next_rows-same : (t : ℕ) (rows : List Row) → t < u → next_rows other t rows ≡ next_rows net t rows
  unfolding next_rows next_row
  next_rows-same t rows below =
      let n = occupancy rows in
      λ j. map (λ i. moved_row (record net { cells = agree.cells j }) i (row_at rows i) (inflow-same t n i below j) (outflow-same t n i below j)) (range_with_len 0 (length (agree.cells j)))

  -- the recurrences come to the same rows up to step u
  pub states-same : (t : ℕ) → t ≤ u → state_at other t ≡ state_at net t
  unfolding state_at
  states-same zero within = ap (map first_row) agree.cells
  states-same (suc t) within = next_rows-same t (state_at other t) (omega (arith, within)) ∙ ap (next_rows net t) (states-same t (omega (arith, within)))

  same-there : (i : ℕ) → i < length other.cells → i < length net.cells
  same-there i there = omega (arith, there, ap length agree.cells)

  -- and a moment of the one, at steps up to u, is one of the other that has so many steps
  pub moment-same : (cut : List ℕ) (start : StartLists) → All (λ s. s ≤ u) start.steps → All (λ s. s ≤ other.steps) start.steps → IsMoment net cut start → IsMoment other cut start
  moment-same cut start by_then in_time moment =
      let by_step : (i : ℕ) → start_of start cut i ≤ u = λ i. by_then (region_at cut i) 0 (omega (arith, at-le-greatest cut i, moment.lawful.one_each)) in
      record {
        lawful = record {
          one_each = moment.lawful.one_each;
          in_time = in_time;
          close = λ r q near. moment.lawful.close r q (ap (λ connectors. are_neighbours connectors cut r q) (sym agree.connectors) ∙ near);
        };
        row_each = moment.row_each ∙ ap length (sym agree.cells);
        earlier_each = moment.earlier_each ∙ ap length (sym agree.cells);
        rows = λ i there. moment.rows i (same-there i there) ∙ ap (λ rows. row_at rows i) (sym (states-same (start_of start cut i) (by_step i)));
        earlier = λ i t there later. moment.earlier i t (same-there i there) later ∙ ap (λ rows. occupancy rows i) (sym (states-same t (omega (arith, by_step i, later))));
        none = λ i there none. moment.none i (same-there i there) none;
      }

-- a run can go on from a moment, as from the beginning
pub moment-true : (net : Network) (cut : List ℕ) (start : StartLists) → IsMoment net cut start → IsTrueStart net cut start
moment-true net cut start moment = record { rows = moment.rows; earlier = λ i t there border later. moment.earlier i t there later }

pub moment-starts : (net : Network) (cut : List ℕ) (start : StartLists) → IsNetwork net → IsMoment net cut start → CanStart net cut start
moment-starts net cut start sound moment =
    let in_time : (i : ℕ) → start_of start cut i ≤ net.steps = λ i. moment.lawful.in_time (region_at cut i) 0 (omega (arith, at-le-greatest cut i, moment.lawful.one_each)) in
    let bounds : (t i : ℕ) → i < length net.cells → t ≤ net.steps → IsRowInBounds net t i (row_at (state_at net t) i) = λ t i there within. (state_at-in_bounds net sound t within).each i there in
    record {
      fits = record {
        one_each = moment.lawful.one_each;
        in_time = moment.lawful.in_time;
        rows = moment.row_each;
        earlier = moment.earlier_each;
        bounds = λ i there. record {
          row = subst (IsRowInBounds net (start_of start cut i) i) (sym (moment.rows i there)) (bounds (start_of start cut i) i there (in_time i));
          earlier = record {
            later = λ t later. subst (IsHeldInBounds net t i) (sym (moment.earlier i t there later)) ((bounds t i there (omega (arith, in_time i, later))).held);
            none = moment.none i there;
          };
        };
      };
      lawful = moment.lawful;
    }

-- what is saved of a run from step 0 is a moment
pub shown-moment : (bytes : List ℕ) (net : Network) (cut : List ℕ) (room : RoomValue) → IsTrueShot bytes net cut (zero_start net cut) room → IsMoment net cut (start_in (content_shown cut room bytes))
shown-moment bytes net cut room shot =
    let start = zero_start net cut in
    let from_zero : (i : ℕ) → start_of start cut i ≡ 0 = λ i. zeros (region_count cut) (region_at cut i) in
    let recurrences = are_the_recurrences net cut start shot.sound shot.from shot.true_start in
    let fits = (shot-has_true_start bytes net cut start room shot).can_start.fits in
    record {
      lawful = shot.snapshot.lawful;
      row_each = fits.rows;
      earlier_each = fits.earlier;
      rows = (shot-has_true_start bytes net cut start room shot).true_start.rows;
      earlier = λ i t there later. held_before bytes net cut start room shot i t there later
          ∙ grid_held-started net cut start t i (omega (arith, from_zero i)) ∙ ap (λ row. row.n) (recurrences t i there (omega (arith, from_zero i)));
      none = λ i there none. (fits.bounds i there).earlier.none none;
    }

-- a cutting of the one is one of the other
cutting-same : (net other : Network) (content : Content) (edited : List ℕ) → other.cells ≡ net.cells → cutting_in other (edited_content content edited) ≡ cutting_in net content
unfolding cutting_in cut_of
cutting-same net other content edited cells = let long : length other.cells ≡ length net.cells = ap length cells in rw long refl

-- so what is saved of it, with the other network, has a true start
pub edited-has_true_start : (content : Content) (net other : Network) (u : ℕ) (cut edited : List ℕ) → IsEdited content net other u cut edited → HasTrueStart (edited_content content edited) other cut
edited-has_true_start content net other u cut edited is =
    let same = moment-same net other u is.agree cut (start_in content) is.by_then is.in_time is.moment in
    record {
      cut_so = record { network = is.reads; cutting = cutting-same net other content edited is.agree.cells ∙ is.cutting };
      can_start = moment-starts other cut (start_in content) is.sound same;
      true_start = moment-true other cut (start_in content) same;
    }
