-- A record that a sound draft takes leaves it sound, for a record of each kind.
use Rattle.std.proofs.Common.{ℕ, ◌≡◌, ◌<◌, ◌≤◌, ◌-◌, ◌==◌, List, Ok, Some, None, refl, arith, length, ltb-true, not}
use Rattle.std.specs.Prelude.{is_none, is_some, nat_lt, ok_or}
use Rattle.std.specs.List.{list_any}
use Rattle.std.proofs.lemmas.Bool.{eqb-false, not-true}
use Rattle.fixed_flow.specs.Limits.{most_parts, most_ratio}
use Rattle.step_plan.specs.Counts.{counts_of}
use Rattle.step_plan.specs.Green.{signal_of}
use Rattle.step_plan.specs.Limits.{most_steps}
use Rattle.step_plan.specs.declared.cell_record.CellRecord.TheVariants as of_cell
use Rattle.record_fields.specs.Fields.{amount_within, field, range_within, ratio, weights, whole_within}
use Rattle.record_fields.specs.RecordKinds.{field_count, record_kind_of}
use Rattle.record_fields.specs.Regions.{region_in}
use Rattle.record_fields.specs.declared.code.Code.TheVariants.{BadCount, BadKind, Repeated, TooMany, WrongKind}
use Rattle.record_fields.specs.declared.record_kind.RecordKind.{RecordKind}
use Rattle.record_fields.specs.declared.record_kind.RecordKind.TheVariants.{Steps, Road, Gate, Exit, Link, Merge, Diverge, Signal, Limit, Demand, Turn, Region, Speed}
use Rattle.record_fields.proofs.CheckLemmas.{bind-ok, must-ok, ok_or-some}
use Rattle.record_fields.proofs.KindWords.{record_kind_of-Region, record_kind_of-Speed, record_kind_of-Turn}
use Rattle.network_file.specs.CellFields.{downstream, known_cell, new_name, upstream}
use Rattle.network_file.specs.Cells.{is_exit_at, is_gate_at, is_road_at}
use Rattle.network_file.specs.Connectors.{diverges_from}
use Rattle.network_file.specs.Draft.{Draft}
use Rattle.network_file.specs.Formats.{most_records}
use Rattle.network_file.specs.Limits.{most_capacity, most_regions, most_room}
use Rattle.network_file.specs.Sound.{IsSoundDraft}
use Rattle.network_file.specs.Taking.{take_demand, take_diverge, take_exit, take_gate, take_kind, take_limit, take_link, take_merge, take_record, take_region, take_road, take_signal, take_speed, take_steps, take_turn, taken_before}
use Rattle.network_file.specs.declared.cell.Kind.TheVariants as kind
use Rattle.network_file.specs.declared.connector.Connector.TheVariants as connector
use Rattle.network_file.proofs.ConnectorLemmas.{FitsConnector-diverge, FitsConnector-link, FitsConnector-merge}
use Rattle.network_file.proofs.SoundDrafts.{draft-add_cell, draft-add_connector, draft-add_record, draft-add_region, draft-add_steps}
use Rattle.network_file.proofs.SoundFields.{amount_within-bound, downstream-receives, known_cell-there, new_name-fresh, none-is, range_within-bounds, ratio-bounds, upstream-sends, weights-bounds, whole_within-bounds}

take_steps-sound : (draft more : Draft) (fields : List (List ℕ)) → IsSoundDraft draft → take_steps draft fields ≡ Ok more → IsSoundDraft more
unfolding take_steps
take_steps-sound draft more fields sound taken =
    let (first, taken1) = must-ok (is_none draft.steps) Repeated _ more taken in
    let (steps, (is_steps, taken2)) = bind-ok (whole_within 1 most_steps (field fields 1)) _ more taken1 in
    let (some, few) = whole_within-bounds 1 most_steps (field fields 1) steps is_steps in
    draft-add_steps draft more steps sound (record { first = first; some = some; few = few }) taken2

take_road-sound : (draft more : Draft) (fields : List (List ℕ)) → IsSoundDraft draft → length draft.cells < most_records draft.format
    → take_road draft fields ≡ Ok more → IsSoundDraft more
unfolding take_road
take_road-sound draft more fields sound space taken =
    let (name, (is_name, taken1)) = bind-ok (new_name draft.cells (field fields 1)) _ more taken in
    let (room, (is_room, taken2)) = bind-ok (amount_within most_room (field fields 2)) _ more taken1 in
    let (capacity, (is_capacity, taken3)) = bind-ok (amount_within most_capacity (field fields 3)) _ more taken2 in
    let (pair, (is_pair, taken4)) = bind-ok (ratio most_ratio (field fields 4) (field fields 5)) _ more taken3 in
    let (first, (is_first, taken5)) = bind-ok (amount_within room (field fields 6)) _ more taken4 in
    let limit : room ≤ most_room = amount_within-bound most_room (field fields 2) room is_room in
    let within : first ≤ room = amount_within-bound room (field fields 6) first is_first in
    let (positive, at_most_one, small) = ratio-bounds most_ratio (field fields 4) (field fields 5) pair is_pair in
    draft-add_cell draft more (record { name = name; kind = kind.Road room pair.0 pair.1; first = first }) capacity sound (record {
      room = space;
      fresh = new_name-fresh draft.cells (field fields 1) name is_name;
      sound = record {
        kind = record { limit = limit; positive = positive; ratio = at_most_one; small = small; within = within };
        first = omega (arith, limit, within);
      };
      low = amount_within-bound most_capacity (field fields 3) capacity is_capacity;
    }) taken5

take_gate-sound : (draft more : Draft) (fields : List (List ℕ)) → IsSoundDraft draft → length draft.cells < most_records draft.format
    → take_gate draft fields ≡ Ok more → IsSoundDraft more
unfolding take_gate
take_gate-sound draft more fields sound space taken =
    let (name, (is_name, taken1)) = bind-ok (new_name draft.cells (field fields 1)) _ more taken in
    let (capacity, (is_capacity, taken2)) = bind-ok (amount_within most_capacity (field fields 2)) _ more taken1 in
    let (first, (is_first, taken3)) = bind-ok (amount_within most_parts (field fields 3)) _ more taken2 in
    draft-add_cell draft more (record { name = name; kind = kind.Gate; first = first }) capacity sound (record {
      room = space;
      fresh = new_name-fresh draft.cells (field fields 1) name is_name;
      sound = record { kind = tt; first = amount_within-bound most_parts (field fields 3) first is_first };
      low = amount_within-bound most_capacity (field fields 2) capacity is_capacity;
    }) taken3

take_exit-sound : (draft more : Draft) (fields : List (List ℕ)) → IsSoundDraft draft → length draft.cells < most_records draft.format
    → take_exit draft fields ≡ Ok more → IsSoundDraft more
unfolding take_exit
take_exit-sound draft more fields sound space taken =
    let (name, (is_name, taken1)) = bind-ok (new_name draft.cells (field fields 1)) _ more taken in
    let (capacity, (is_capacity, taken2)) = bind-ok (amount_within most_capacity (field fields 2)) _ more taken1 in
    draft-add_cell draft more (record { name = name; kind = kind.Exit; first = 0 }) capacity sound (record {
      room = space;
      fresh = new_name-fresh draft.cells (field fields 1) name is_name;
      sound = record { kind = refl; first = omega arith };
      low = amount_within-bound most_capacity (field fields 2) capacity is_capacity;
    }) taken2

take_link-sound : (draft more : Draft) (fields : List (List ℕ)) → IsSoundDraft draft → length draft.connectors < most_records draft.format
    → take_link draft fields ≡ Ok more → IsSoundDraft more
unfolding take_link
take_link-sound draft more fields sound space taken =
    let (up, (is_up, taken1)) = bind-ok (upstream draft.cells draft.connectors None (field fields 1)) _ more taken in
    let (down, (is_down, taken2)) = bind-ok (downstream draft.cells draft.connectors None (field fields 2)) _ more taken1 in
    let sends = upstream-sends draft.cells draft.connectors None (field fields 1) up is_up in
    let receives = downstream-receives draft.cells draft.connectors None (field fields 2) down is_down in
    draft-add_connector draft more (connector.Link up down) sound
    (FitsConnector-link draft up down space (sends.there, sends.sends, sends.free) (receives.there, receives.receives, receives.free)) taken2

take_merge-sound : (draft more : Draft) (fields : List (List ℕ)) → IsSoundDraft draft → length draft.connectors < most_records draft.format
    → take_merge draft fields ≡ Ok more → IsSoundDraft more
unfolding take_merge
take_merge-sound draft more fields sound space taken =
    let (up1, (is_up1, taken1)) = bind-ok (upstream draft.cells draft.connectors None (field fields 1)) _ more taken in
    let (up2, (is_up2, taken2)) = bind-ok (upstream draft.cells draft.connectors (Some up1) (field fields 2)) _ more taken1 in
    let (down, (is_down, taken3)) = bind-ok (downstream draft.cells draft.connectors None (field fields 3)) _ more taken2 in
    let (pair, (is_pair, taken4)) = bind-ok (weights most_ratio (field fields 4) (field fields 5)) _ more taken3 in
    let sends1 = upstream-sends draft.cells draft.connectors None (field fields 1) up1 is_up1 in
    let sends2 = upstream-sends draft.cells draft.connectors (Some up1) (field fields 2) up2 is_up2 in
    let receives = downstream-receives draft.cells draft.connectors None (field fields 3) down is_down in
    let (weight1, weight2) = weights-bounds most_ratio (field fields 4) (field fields 5) pair is_pair in
    draft-add_connector draft more (connector.Merge up1 up2 down pair.0 pair.1) sound
    (FitsConnector-merge draft up1 up2 down pair.0 pair.1 space (sends1.there, sends1.sends, sends1.free) (sends2.there, sends2.sends, sends2.free)
    (eqb-false up2 up1 sends2.apart) (receives.there, receives.receives, receives.free) weight1 weight2) taken4

take_diverge-sound : (draft more : Draft) (fields : List (List ℕ)) → IsSoundDraft draft → length draft.connectors < most_records draft.format
    → take_diverge draft fields ≡ Ok more → IsSoundDraft more
unfolding take_diverge
take_diverge-sound draft more fields sound space taken =
    let (up, (is_up, taken1)) = bind-ok (upstream draft.cells draft.connectors None (field fields 1)) _ more taken in
    let (down1, (is_down1, taken2)) = bind-ok (downstream draft.cells draft.connectors None (field fields 2)) _ more taken1 in
    let (down2, (is_down2, taken3)) = bind-ok (downstream draft.cells draft.connectors (Some down1) (field fields 3)) _ more taken2 in
    let (pair, (is_pair, taken4)) = bind-ok (weights most_ratio (field fields 4) (field fields 5)) _ more taken3 in
    let sends = upstream-sends draft.cells draft.connectors None (field fields 1) up is_up in
    let receives1 = downstream-receives draft.cells draft.connectors None (field fields 2) down1 is_down1 in
    let receives2 = downstream-receives draft.cells draft.connectors (Some down1) (field fields 3) down2 is_down2 in
    let (weight1, weight2) = weights-bounds most_ratio (field fields 4) (field fields 5) pair is_pair in
    draft-add_connector draft more (connector.Diverge up down1 down2 pair.0 pair.1) sound
    (FitsConnector-diverge draft up down1 down2 pair.0 pair.1 space (sends.there, sends.sends, sends.free)
    (receives1.there, receives1.receives, receives1.free) (receives2.there, receives2.receives, receives2.free)
    (eqb-false down2 down1 receives2.apart) weight1 weight2) taken4

take_signal-sound : (draft more : Draft) (fields : List (List ℕ)) → IsSoundDraft draft → take_signal draft fields ≡ Ok more → IsSoundDraft more
unfolding take_signal
take_signal-sound draft more fields sound taken =
    let (cell, (is_cell, taken1)) = bind-ok (known_cell draft.cells (field fields 1)) _ more taken in
    let (sends, taken2) = must-ok (not (is_exit_at draft.cells cell)) WrongKind _ more taken1 in
    let (first, taken3) = must-ok (not (is_some (signal_of draft.plan cell))) Repeated _ more taken2 in
    let (cycle, (is_cycle, taken4)) = bind-ok (whole_within 1 most_steps (field fields 2)) _ more taken3 in
    let (offset, (is_offset, taken5)) = bind-ok (whole_within 0 (cycle - 1) (field fields 3)) _ more taken4 in
    let (range, (is_range, taken6)) = bind-ok (range_within cycle (field fields 4) (field fields 5)) _ more taken5 in
    let (positive, few) = whole_within-bounds 1 most_steps (field fields 2) cycle is_cycle in
    let (least, most) = whole_within-bounds 0 (cycle - 1) (field fields 3) offset is_offset in
    let (steps, within) = range_within-bounds cycle (field fields 4) (field fields 5) range is_range in
    draft-add_record draft more cell (of_cell.Signal (record { cycle = cycle; offset = offset; from = range.0; to = range.1 })) sound (record {
      there = known_cell-there draft.cells (field fields 1) cell is_cell;
      sound = record { cycle = few; offset = omega (arith, positive, most); steps = steps; within = within };
      kind = record { sends = not-true _ sends; first = not-true _ first };
    }) taken6

take_limit-sound : (draft more : Draft) (fields : List (List ℕ)) → IsSoundDraft draft → (counts_of draft.plan).limits < most_records draft.format
    → take_limit draft fields ≡ Ok more → IsSoundDraft more
unfolding take_limit
take_limit-sound draft more fields sound space taken =
    let (cell, (is_cell, taken1)) = bind-ok (known_cell draft.cells (field fields 1)) _ more taken in
    let (range, (is_range, taken2)) = bind-ok (range_within most_steps (field fields 2) (field fields 3)) _ more taken1 in
    let (capacity, (is_capacity, taken3)) = bind-ok (amount_within most_capacity (field fields 4)) _ more taken2 in
    let (steps, in_time) = range_within-bounds most_steps (field fields 2) (field fields 3) range is_range in
    draft-add_record draft more cell (of_cell.Limit (record { from = range.0; to = range.1; capacity = capacity })) sound (record {
      there = known_cell-there draft.cells (field fields 1) cell is_cell;
      sound = steps;
      kind = record { room = space; in_time = in_time; low = amount_within-bound most_capacity (field fields 4) capacity is_capacity };
    }) taken3

take_demand-sound : (draft more : Draft) (fields : List (List ℕ)) → IsSoundDraft draft → (counts_of draft.plan).demands < most_records draft.format
    → take_demand draft fields ≡ Ok more → IsSoundDraft more
unfolding take_demand
take_demand-sound draft more fields sound space taken =
    let (gate, (is_gate, taken1)) = bind-ok (known_cell draft.cells (field fields 1)) _ more taken in
    let (enters, taken2) = must-ok (is_gate_at draft.cells gate) WrongKind _ more taken1 in
    let (range, (is_range, taken3)) = bind-ok (range_within most_steps (field fields 2) (field fields 3)) _ more taken2 in
    let (amount, (is_amount, taken4)) = bind-ok (amount_within most_parts (field fields 4)) _ more taken3 in
    let (steps, in_time) = range_within-bounds most_steps (field fields 2) (field fields 3) range is_range in
    draft-add_record draft more gate (of_cell.Demand (record { from = range.0; to = range.1; amount = amount })) sound (record {
      there = known_cell-there draft.cells (field fields 1) gate is_gate;
      sound = record { steps = steps; amount = amount_within-bound most_parts (field fields 4) amount is_amount };
      kind = record { room = space; gate = enters; in_time = in_time };
    }) taken4

take_turn-sound : (draft more : Draft) (fields : List (List ℕ)) → IsSoundDraft draft → 2 ≤ draft.format → (counts_of draft.plan).turns < most_records draft.format
    → take_turn draft fields ≡ Ok more → IsSoundDraft more
unfolding take_turn
take_turn-sound draft more fields sound second space taken =
    let (cell, (is_cell, taken1)) = bind-ok (known_cell draft.cells (field fields 1)) _ more taken in
    let (diverges, taken2) = must-ok (list_any (diverges_from cell) draft.connectors) WrongKind _ more taken1 in
    let (range, (is_range, taken3)) = bind-ok (range_within most_steps (field fields 2) (field fields 3)) _ more taken2 in
    let (pair, (is_pair, taken4)) = bind-ok (weights most_ratio (field fields 4) (field fields 5)) _ more taken3 in
    let (steps, in_time) = range_within-bounds most_steps (field fields 2) (field fields 3) range is_range in
    let (share1, share2) = weights-bounds most_ratio (field fields 4) (field fields 5) pair is_pair in
    draft-add_record draft more cell (of_cell.Turn (record { from = range.0; to = range.1; b1 = pair.0; b2 = pair.1 })) sound (record {
      there = known_cell-there draft.cells (field fields 1) cell is_cell;
      sound = record { steps = steps; some_first = share1.0; some_second = share2.0; first = share1.1; second = share2.1 };
      kind = record { second_format = second; room = space; diverges = diverges; in_time = in_time };
    }) taken4

take_region-sound : (draft more : Draft) (fields : List (List ℕ)) → IsSoundDraft draft → 2 ≤ draft.format → take_region draft fields ≡ Ok more → IsSoundDraft more
unfolding take_region
take_region-sound draft more fields sound second taken =
    let (cell, (is_cell, taken1)) = bind-ok (known_cell draft.cells (field fields 1)) _ more taken in
    let (first, taken2) = must-ok (is_none (region_in draft.regions cell)) Repeated _ more taken1 in
    let (number, (is_number, taken3)) = bind-ok (whole_within 0 (most_regions - 1) (field fields 2)) _ more taken2 in
    let (least, most) = whole_within-bounds 0 (most_regions - 1) (field fields 2) number is_number in
    draft-add_region draft more (record { cell = cell; number = number }) sound (record {
      second_format = second;
      there = known_cell-there draft.cells (field fields 1) cell is_cell;
      first = none-is (region_in draft.regions cell) first;
      few = omega (arith, most);
    }) taken3

take_speed-sound : (draft more : Draft) (fields : List (List ℕ)) → IsSoundDraft draft → 3 ≤ draft.format → (counts_of draft.plan).speeds < most_records draft.format
    → take_speed draft fields ≡ Ok more → IsSoundDraft more
unfolding take_speed
take_speed-sound draft more fields sound third space taken =
    let (cell, (is_cell, taken1)) = bind-ok (known_cell draft.cells (field fields 1)) _ more taken in
    let (road, taken2) = must-ok (is_road_at draft.cells cell) WrongKind _ more taken1 in
    let (range, (is_range, taken3)) = bind-ok (range_within most_steps (field fields 2) (field fields 3)) _ more taken2 in
    let (pair, (is_pair, taken4)) = bind-ok (ratio most_ratio (field fields 4) (field fields 5)) _ more taken3 in
    let (steps, in_time) = range_within-bounds most_steps (field fields 2) (field fields 3) range is_range in
    let (positive, at_most_one, small) = ratio-bounds most_ratio (field fields 4) (field fields 5) pair is_pair in
    draft-add_record draft more cell (of_cell.Speed (record { from = range.0; to = range.1; num = pair.0; den = pair.1 })) sound (record {
      there = known_cell-there draft.cells (field fields 1) cell is_cell;
      sound = record { steps = steps; bounds = record { positive = positive; ratio = at_most_one; small = small } };
      kind = record { third_format = third; room = space; road = road; in_time = in_time };
    }) taken4

-- what it takes that a record of a kind leaves the draft sound: the format has the kind, and the draft room for one more
take_kind-sound : (kind : RecordKind) (draft more : Draft) (fields : List (List ℕ)) → IsSoundDraft draft → record_kind_of draft.format (field fields 0) ≡ Some kind
    → taken_before kind draft < most_records draft.format → take_kind kind draft fields ≡ Ok more → IsSoundDraft more
take_kind-sound Steps draft more fields sound named space = take_steps-sound draft more fields sound
take_kind-sound Road draft more fields sound named space = take_road-sound draft more fields sound space
take_kind-sound Gate draft more fields sound named space = take_gate-sound draft more fields sound space
take_kind-sound Exit draft more fields sound named space = take_exit-sound draft more fields sound space
take_kind-sound Link draft more fields sound named space = take_link-sound draft more fields sound space
take_kind-sound Merge draft more fields sound named space = take_merge-sound draft more fields sound space
take_kind-sound Diverge draft more fields sound named space = take_diverge-sound draft more fields sound space
take_kind-sound Signal draft more fields sound named space = take_signal-sound draft more fields sound
take_kind-sound Limit draft more fields sound named space = take_limit-sound draft more fields sound space
take_kind-sound Demand draft more fields sound named space = take_demand-sound draft more fields sound space
take_kind-sound Turn draft more fields sound named space =
    take_turn-sound draft more fields sound (record_kind_of-Turn draft.format (field fields 0) named) space
take_kind-sound Region draft more fields sound named space =
    take_region-sound draft more fields sound (record_kind_of-Region draft.format (field fields 0) named)
take_kind-sound Speed draft more fields sound named space =
    take_speed-sound draft more fields sound (record_kind_of-Speed draft.format (field fields 0) named) space

pub take_record-sound : (draft more : Draft) (fields : List (List ℕ)) → IsSoundDraft draft → take_record draft fields ≡ Ok more → IsSoundDraft more
unfolding take_record
take_record-sound draft more fields sound taken =
    let (kind, (is_kind, taken1)) = bind-ok (ok_or (record_kind_of draft.format (field fields 0)) BadKind) _ more taken in
    let (counted, taken2) = must-ok (length fields == field_count kind) BadCount _ more taken1 in
    let (space, taken3) = must-ok (nat_lt (taken_before kind draft) (most_records draft.format)) TooMany _ more taken2 in
    take_kind-sound kind draft more fields sound (ok_or-some (record_kind_of draft.format (field fields 0)) BadKind kind is_kind)
    (ltb-true (taken_before kind draft) (most_records draft.format) space) taken3
