-- What every network keeps is kept by one more cell, connector or record of the plan.
use Rattle.std.proofs.Common.{ℕ, zero, suc, ◌≡◌, ◌<◌, ◌≤◌, ◌+◌, Bool, true, false, List, [], ◌∷◌, ◌++◌, None, cond, ◌∙◌, inl, inr, refl, subst, sym, length, arith, length-append, eqb, map}
use Rattle.std.specs.Prelude.{All, count_by, slice_get, ◌||◌}
use Rattle.std.specs.List.{list_any}
use Rattle.std.specs.Cmp.Lexicographic.{nat_list_eq_equiv}
use Rattle.std.proofs.lemmas.Bool.{cases_eq, cases_lt, eqb-true}
use Rattle.std.proofs.lemmas.List.{get_or_append_left, get_or_push, length_push, length-set, map-append}
use Rattle.std.proofs.lemmas.List.Elements.{All-head, All-nil, All-push, All-tail}
use Rattle.std.proofs.lemmas.List.Folds.{list_any-append}
use Rattle.std.proofs.lemmas.List.Sums.{sum_by_push, sum_by-cons}
use Rattle.std.proofs.lemmas.Map.Keys.{IsDistinct-push}
use Rattle.std.proofs.lemmas.Option.{IfSome_then}
use Rattle.step_plan.specs.Adding.{with_own, with_record}
use Rattle.step_plan.specs.Counts.{counts_of}
use Rattle.step_plan.specs.Counted.{with_one}
use Rattle.step_plan.specs.Limits.{most_steps}
use Rattle.step_plan.specs.Records.{CellRecords, PlannedCell, PlanRecords, bare_cell, planned_at, records_at, with_cell, with_records}
use Rattle.step_plan.specs.Sound.{HasRoom, IsSoundRecord, IsSoundSpeed, IsSoundTurn}
use Rattle.step_plan.specs.declared.cell_record.CellRecord.{CellRecord}
use Rattle.step_plan.specs.declared.cell_record.CellRecord.TheVariants.{Signal, Limit, Demand, Turn, Speed}
use Rattle.step_plan.proofs.Counting.{counts_of-with_cell, counts_of-with_record}
use Rattle.step_plan.proofs.Planned.{planned_at-with_other, planned_at-with_same}
use Rattle.network_file.specs.Draft.{Draft}
use Rattle.network_file.specs.Fitting.{FitsKind, FitsRecord}
use Rattle.network_file.specs.Formats.{most_records}
use Rattle.network_file.proofs.CellLemmas.{no_name}
use Rattle.network_file.proofs.NetworkFacts.{few_records}
use Rattle.network_file.specs.Cells.{cell_named, is_exit_at, is_gate_at, is_road_at}
use Rattle.network_file.specs.Connectors.{diverges_from, downstream_of, leads_into, leads_out_of, upstream_of}
use Rattle.network_file.specs.Sound.{AreFew, HasSoundParts, IsPlanOf, IsPlannedCell, IsSoundCell, IsSoundConnector}
use Rattle.network_file.specs.declared.cell.Cell.{Cell}
use Rattle.network_file.specs.declared.connector.Connector.{Connector}
use Rattle.network_file.specs.Limits.{most_capacity, most_regions}
use Rattle.record_fields.specs.declared.region_record.RegionRecord.{RegionRecord}

-- an earlier element stays where it was
slice_get-push : {X : Type 0} (xs : List X) (x : X) (i : ℕ) → i < length xs → slice_get (xs ++ x ∷ []) i ≡ slice_get xs i
slice_get-push [] x i h = absurd (omega arith)
slice_get-push (y ∷ ys) x zero h = refl
slice_get-push (y ∷ ys) x (suc i) h = slice_get-push ys x i (omega arith)

-- the kind of an earlier cell stays
same_exit : (cells : List Cell) (cell : Cell) (i : ℕ) → i < length cells → is_exit_at (cells ++ cell ∷ []) i ≡ is_exit_at cells i
same_exit cells cell i h = rw (slice_get-push cells cell i h) refl

same_gate : (cells : List Cell) (cell : Cell) (i : ℕ) → i < length cells → is_gate_at (cells ++ cell ∷ []) i ≡ is_gate_at cells i
same_gate cells cell i h = rw (slice_get-push cells cell i h) refl

same_road : (cells : List Cell) (cell : Cell) (i : ℕ) → i < length cells → is_road_at (cells ++ cell ∷ []) i ≡ is_road_at cells i
same_road cells cell i h = rw (slice_get-push cells cell i h) refl

-- none passes where no element passes
count_by-none : {X : Type 0} (p : X → Bool) (xs : List X) → list_any p xs ≡ false → count_by p xs ≡ 0
count_by-none p [] h = refl
count_by-none p (x ∷ xs) h =
    let (one, more) = neither (p x) (list_any p xs) h in
    sum_by-cons (λ y. cond (p y) 1 0) x xs ∙ rw one (omega (arith, count_by-none p xs more))
  where
    neither : (a b : Bool) → (a || b) ≡ false → (a ≡ false) × (b ≡ false)
    neither true b e = cc e
    neither false b e = (refl, e)

-- at most one passes where at most one did and the new one is the first, if it passes
count_by-push : {X : Type 0} (p : X → Bool) (xs : List X) (x : X) → count_by p xs ≤ 1 → (p x ≡ true → list_any p xs ≡ false) → count_by p (xs ++ x ∷ []) ≤ 1
count_by-push p xs x few first = rw (sum_by_push (λ y. cond (p y) 1 0) xs x) (by (p x) refl)
  where
    by : (b : Bool) → p x ≡ b → count_by p xs + cond b 1 0 ≤ 1
    by true e = rw (count_by-none p xs (first e)) (omega arith)
    by false e = omega (arith, few)

-- an element that passes still does among one more
list_any-kept : {X : Type 0} (p : X → Bool) (xs : List X) (x : X) → list_any p xs ≡ true → list_any p (xs ++ x ∷ []) ≡ true
list_any-kept p xs x found = rw (list_any-append p xs (x ∷ []), found) refl

-- what holds of each number of a list holds of one that is found in it
All-found : (P : ℕ → Type 0) (i : ℕ) (xs : List ℕ) → All P xs → list_any (eqb i) xs ≡ true → P i
All-found P i [] all found = cc found
All-found P i (x ∷ xs) all found = by (eqb i x) refl (All-found P i xs (All-tail P x xs all))
  where
    by : (b : Bool) → eqb i x ≡ b → (list_any (eqb i) xs ≡ true → P i) → P i
    by true e more = rw (eqb-true i x e) (All-head P x xs all)
    by false e more = more (rw e at found)

-- a connector of a draft is one of the draft with one more cell
still_sound : (cells : List Cell) (cell : Cell) (connector : Connector) → IsSoundConnector cells connector → IsSoundConnector (cells ++ cell ∷ []) connector
still_sound cells cell connector sound = record {
  up = λ k d h.
      let (there, sends) = sound.up k d h in
      (simp length-append (omega (arith, there)), rw (same_exit cells cell _ there) sends);
  down = λ k d h.
      let (there, receives) = sound.down k d h in
      (simp length-append (omega (arith, there)), rw (same_gate cells cell _ there) receives);
  up_apart = sound.up_apart;
  down_apart = sound.down_apart;
  weights = sound.weights;
}

-- what a plan says of a cell of a draft fits the draft with one more cell
still_planned : (cells : List Cell) (cell : Cell) (i : ℕ) (planned : PlannedCell) → i < length cells → IsPlannedCell cells i planned →
    IsPlannedCell (cells ++ cell ∷ []) i planned
still_planned cells cell i planned there fits = record {
  capacity = fits.capacity;
  signal = IfSome_then planned.records.signal fits.signal (λ s sends. rw (same_exit cells cell i there) sends);
  limits = fits.limits;
  demands = λ k d h.
      let (gate, in_time) = fits.demands k d h in
      (rw (same_gate cells cell i there) gate, in_time);
  turns = fits.turns;
  speeds = λ k d h.
      let (road, in_time, sound) = fits.speeds k d h in
      (rw (same_road cells cell i there) road, in_time, sound);
}

-- a cell without records
bare_planned : (cells : List Cell) (i capacity : ℕ) → capacity ≤ most_capacity → IsPlannedCell cells i (bare_cell capacity)
bare_planned cells i capacity low =
    record { capacity = low; signal = tt; limits = All-nil _; demands = All-nil _; turns = All-nil _; speeds = All-nil _ }

-- what holds of each cell of a plan, and of one without records, holds of each with one more cell
each-with_cell : (P : ℕ → PlannedCell → Type 0) (plan : PlanRecords) (capacity i : ℕ) → (i < length plan.cells → P i (planned_at plan i)) →
    (i ≡ length plan.cells → P i (bare_cell capacity)) → i < length plan.cells + 1 → P i (planned_at (with_cell plan capacity) i)
each-with_cell P plan capacity i old last there = elim (cases_lt i (length plan.cells)) [
  | inl before ↦ subst (P i) (sym (get_or_append_left plan.cells (bare_cell capacity ∷ []) (bare_cell 0) i before)) (old before)
  | inr past ↦
      let is : length plan.cells ≡ i = omega arith in
      subst (P i) (sym (get_or_push plan.cells (bare_cell capacity) (bare_cell 0) i is)) (last (sym is))
]

-- a plan of the cells is one of one cell more
plan-add_cell : (format : ℕ) (cells : List Cell) (plan : PlanRecords) (cell : Cell) (capacity : ℕ) → IsPlanOf format cells plan → capacity ≤ most_capacity
    → IsPlanOf format (cells ++ cell ∷ []) (with_cell plan capacity)
plan-add_cell format cells plan cell capacity planned low =
    record {
      one_each = simp length-append (omega (arith, planned.one_each));
      planned = λ i there. each-with_cell (IsPlannedCell (cells ++ cell ∷ [])) plan capacity i
          (λ before.
          let inside : i < length cells = omega (arith, planned.one_each) in
          still_planned cells cell i _ inside (planned.planned i inside))
          (λ last. bare_planned _ i capacity low) (omega (arith, planned.one_each, length_push cells cell));
      few = subst (AreFew format) (sym (counts_of-with_cell plan capacity)) planned.few;
    }

pub HasSoundParts-add_cell : (format : ℕ) (cells : List Cell) (connectors : List Connector) (plan : PlanRecords) (cell : Cell) (capacity : ℕ)
    → HasSoundParts format cells connectors plan → length cells < most_records format → cell_named cells cell.name ≡ None → IsSoundCell cell → capacity ≤ most_capacity
    → HasSoundParts format (cells ++ cell ∷ []) connectors (with_cell plan capacity)
HasSoundParts-add_cell format cells connectors plan cell capacity sound room fresh fits low = record {
  few_cells = simp length-append (omega (arith, room));
  few_connectors = sound.few_connectors;
  sound_cells = All-push IsSoundCell cells cell sound.sound_cells fits;
  names = simp map-append (IsDistinct-push nat_list_eq_equiv (map (λ c. c.name) cells) cell.name sound.names (no_name cells cell.name fresh));
  sound_connectors = λ k d h. still_sound cells cell _ (sound.sound_connectors k d h);
  one_out = sound.one_out;
  one_in = sound.one_in;
  planned = plan-add_cell format cells plan cell capacity sound.planned low;
  turns_diverge = λ i there. each-with_cell (λ k planned. All (λ turn. list_any (diverges_from k) connectors ≡ true) planned.records.turns) plan capacity i
      (λ before. sound.turns_diverge i (omega (arith, sound.planned.one_each))) (λ last. All-nil _)
      (omega (arith, sound.planned.one_each, length_push cells cell));
}

pub HasSoundParts-add_connector : (format : ℕ) (cells : List Cell) (connectors : List Connector) (plan : PlanRecords) (connector : Connector)
    → HasSoundParts format cells connectors plan → length connectors < most_records format → IsSoundConnector cells connector
    → All (λ up. list_any (leads_out_of up) connectors ≡ false) (upstream_of connector)
    → All (λ down. list_any (leads_into down) connectors ≡ false) (downstream_of connector)
    → HasSoundParts format cells (connectors ++ connector ∷ []) plan
HasSoundParts-add_connector format cells connectors plan connector sound room fits up_free down_free = record {
  few_cells = sound.few_cells;
  few_connectors = simp length-append (omega (arith, room));
  sound_cells = sound.sound_cells;
  names = sound.names;
  sound_connectors = All-push (IsSoundConnector cells) connectors connector sound.sound_connectors fits;
  one_out = λ i. count_by-push (leads_out_of i) connectors connector (sound.one_out i)
      (All-found (λ up. list_any (leads_out_of up) connectors ≡ false) i (upstream_of connector) up_free);
  one_in = λ i. count_by-push (leads_into i) connectors connector (sound.one_in i)
      (All-found (λ down. list_any (leads_into down) connectors ≡ false) i (downstream_of connector) down_free);
  planned = sound.planned;
  turns_diverge = λ i there k d h. list_any-kept (diverges_from i) connectors connector (sound.turns_diverge i there k d h);
}

-- what a plan says of a cell that may have a record, with it
planned-with : (draft : Draft) (cell : ℕ) (planned : PlannedCell) (one : CellRecord) → FitsKind draft cell one → IsSoundRecord one →
    IsPlannedCell draft.cells cell planned → IsPlannedCell draft.cells cell (record planned { records = with_own planned.records one })
planned-with draft cell planned (Signal signal) fits sound old =
    record { capacity = old.capacity; signal = fits.sends; limits = old.limits; demands = old.demands; turns = old.turns; speeds = old.speeds }
planned-with draft cell planned (Limit limit) fits sound old = record {
  capacity = old.capacity;
  signal = old.signal;
  limits = All-push (λ l. (l.to ≤ most_steps) × (l.capacity ≤ most_capacity)) planned.records.limits limit old.limits (fits.in_time, fits.low);
  demands = old.demands;
  turns = old.turns;
  speeds = old.speeds;
}
planned-with draft cell planned (Demand demand) fits sound old = record {
  capacity = old.capacity;
  signal = old.signal;
  limits = old.limits;
  demands = All-push (λ d. (is_gate_at draft.cells cell ≡ true) × (d.to ≤ most_steps)) planned.records.demands demand old.demands (fits.gate, fits.in_time);
  turns = old.turns;
  speeds = old.speeds;
}
planned-with draft cell planned (Turn turn) fits sound old = record {
  capacity = old.capacity;
  signal = old.signal;
  limits = old.limits;
  demands = old.demands;
  turns = All-push (λ t. (t.to ≤ most_steps) × IsSoundTurn t) planned.records.turns turn old.turns (fits.in_time, sound);
  speeds = old.speeds;
}
planned-with draft cell planned (Speed speed) fits sound old = record {
  capacity = old.capacity;
  signal = old.signal;
  limits = old.limits;
  demands = old.demands;
  turns = old.turns;
  speeds = All-push (λ s. (is_road_at draft.cells cell ≡ true) × (s.to ≤ most_steps) × IsSoundSpeed s) planned.records.speeds speed old.speeds (fits.road, fits.in_time, sound);
}

-- there are few enough with a record for which there is room
few-with : (draft : Draft) (cell : ℕ) (one : CellRecord) → FitsKind draft cell one → AreFew draft.format (counts_of draft.plan) →
    AreFew draft.format (with_one (counts_of draft.plan) one)
few-with draft cell (Signal signal) fits few =
    record { limits = few.limits; demands = few.demands; turns = few.turns; speeds = few.speeds; no_turns = few.no_turns; no_speeds = few.no_speeds }
few-with draft cell (Limit limit) fits few =
    record { limits = omega (arith, fits.room); demands = few.demands; turns = few.turns; speeds = few.speeds; no_turns = few.no_turns; no_speeds = few.no_speeds }
few-with draft cell (Demand demand) fits few =
    record { limits = few.limits; demands = omega (arith, fits.room); turns = few.turns; speeds = few.speeds; no_turns = few.no_turns; no_speeds = few.no_speeds }
few-with draft cell (Turn turn) fits few = record {
  limits = few.limits;
  demands = few.demands;
  turns = omega (arith, fits.room);
  speeds = few.speeds;
  no_turns = λ first. absurd (omega (arith, first, fits.second_format));
  no_speeds = few.no_speeds;
}
few-with draft cell (Speed speed) fits few = record {
  limits = few.limits;
  demands = few.demands;
  turns = few.turns;
  speeds = omega (arith, fits.room);
  no_turns = few.no_turns;
  no_speeds = λ older. absurd (omega (arith, older, fits.third_format));
}

-- a diverge leads out of a cell that has turns, also with a record that it may have
diverge-with : (draft : Draft) (cell : ℕ) (own : CellRecords) (one : CellRecord) → FitsKind draft cell one →
    All (λ turn. list_any (diverges_from cell) draft.connectors ≡ true) own.turns →
    All (λ turn. list_any (diverges_from cell) draft.connectors ≡ true) (with_own own one).turns
diverge-with draft cell own (Signal signal) fits old = old
diverge-with draft cell own (Limit limit) fits old = old
diverge-with draft cell own (Demand demand) fits old = old
diverge-with draft cell own (Turn turn) fits old = All-push (λ t. list_any (diverges_from cell) draft.connectors ≡ true) own.turns turn old fits.diverges
diverge-with draft cell own (Speed speed) fits old = old

-- the plan has room for a record that the draft can take
pub has_room : (draft : Draft) (cell : ℕ) (one : CellRecord) → FitsKind draft cell one → HasRoom draft.plan cell one
has_room draft cell (Signal signal) fits = fits.first
has_room draft cell (Limit limit) fits = tt
has_room draft cell (Demand demand) fits = omega (arith, fits.room, few_records draft.format)
has_room draft cell (Turn turn) fits = tt
has_room draft cell (Speed speed) fits = tt

-- what holds of each cell of a plan, and of one with other records, holds of each with these
each-with_records : (P : ℕ → PlannedCell → Type 0) (plan : PlanRecords) (cell : ℕ) (added : CellRecords → CellRecords) (i : ℕ) → cell < length plan.cells →
    P cell (record (planned_at plan cell) { records = added (records_at plan cell) }) → P i (planned_at plan i) →
    P i (planned_at (with_records plan cell added) i)
each-with_records P plan cell added i has changed old = elim (cases_eq i cell) [
  | inl same ↦ rw (same, planned_at-with_same plan cell added has) changed
  | inr other ↦ subst (P i) (sym (planned_at-with_other plan cell i added other)) old
]

pub HasSoundParts-add_record : (draft : Draft) (cell : ℕ) (one : CellRecord) → HasSoundParts draft.format draft.cells draft.connectors draft.plan →
    FitsRecord draft cell one → HasSoundParts draft.format draft.cells draft.connectors (with_record draft.plan cell one)
HasSoundParts-add_record draft cell one sound fits =
    let plan = draft.plan in
    let has : cell < length plan.cells = omega (arith, fits.there, sound.planned.one_each) in
    let added : CellRecords → CellRecords = λ own. with_own own one in
    record {
      few_cells = sound.few_cells;
      few_connectors = sound.few_connectors;
      sound_cells = sound.sound_cells;
      names = sound.names;
      sound_connectors = sound.sound_connectors;
      one_out = sound.one_out;
      one_in = sound.one_in;
      planned = record {
        one_each = rw length-set sound.planned.one_each;
        planned = λ i there. each-with_records (IsPlannedCell draft.cells) plan cell added i has
            (planned-with draft cell (planned_at plan cell) one fits.kind fits.sound (sound.planned.planned cell fits.there)) (sound.planned.planned i there);
        few = subst (AreFew draft.format) (sym (counts_of-with_record plan cell one has (has_room draft cell one fits.kind)))
            (few-with draft cell one fits.kind sound.planned.few);
      };
      turns_diverge = λ i there. each-with_records (λ k planned. All (λ turn. list_any (diverges_from k) draft.connectors ≡ true) planned.records.turns) plan cell added i has
          (diverge-with draft cell (records_at plan cell) one fits.kind (sound.turns_diverge cell fits.there)) (sound.turns_diverge i there);
    }

-- the regions of a draft with one more cell
pub regions-add_cell : (cells : List Cell) (cell : Cell) (regions : List RegionRecord)
    → All (λ region. (region.cell < length cells) × (region.number < most_regions)) regions
    → All (λ region. (region.cell < length (cells ++ cell ∷ [])) × (region.number < most_regions)) regions
regions-add_cell cells cell regions all = λ k d h.
    let (there, few) = all k d h in
    (simp length-append (omega (arith, there)), few)

pub regions-add_region : (cells : List Cell) (regions : List RegionRecord) (region : RegionRecord) → region.cell < length cells → region.number < most_regions
    → All (λ r. (r.cell < length cells) × (r.number < most_regions)) regions
    → All (λ r. (r.cell < length cells) × (r.number < most_regions)) (regions ++ region ∷ [])
regions-add_region cells regions region there few all =
    All-push (λ r. (r.cell < length cells) × (r.number < most_regions)) regions region all (there, few)
