-- A record of each kind that is taken has plain fields, and is taken alike in another format.
use Rattle.std.proofs.Common.{ℕ, zero, suc, ◌≡◌, ◌-◌, List, [], ◌∷◌, Ok, Some, None, refl, subst, ap}
use Rattle.std.specs.Prelude.{Result, is_none, is_some, not}
use Rattle.std.specs.List.{list_any}
use Rattle.std.proofs.lemmas.List.Elements.{All-push}
use Rattle.fixed_flow.specs.Limits.{most_parts, most_ratio}
use Rattle.step_plan.specs.Green.{signal_of}
use Rattle.step_plan.specs.Limits.{most_steps}
use Rattle.network_file.specs.Draft.{Draft}
use Rattle.record_fields.specs.Fields.{field, whole_within, range_within, ratio, weights, amount_within}
use Rattle.record_fields.specs.Regions.{region_in}
use Rattle.network_file.specs.CellFields.{new_name, known_cell, upstream, downstream}
use Rattle.network_file.specs.Cells.{is_exit_at, is_gate_at, is_road_at}
use Rattle.network_file.specs.Connectors.{diverges_from}
use Rattle.network_file.specs.Taking.{take_demand, take_diverge, take_exit, take_gate, take_limit, take_link, take_merge, take_region, take_road, take_signal, take_speed, take_steps, take_turn}
use Rattle.network_file.specs.Limits.{most_capacity, most_regions, most_room}
use Rattle.network_file.specs.declared.cell.Cell.{Cell}
use Rattle.network_file.specs.declared.cell.Kind.TheVariants as kind
use Rattle.record_fields.specs.declared.code.Code.{Code}
use Rattle.record_fields.specs.declared.code.Code.TheVariants.{Repeated, WrongKind}
use Rattle.converted_file.proofs.PlainLines.{ArePlain}
use Rattle.converted_file.proofs.PlainText.{IsPlain}
use Rattle.record_fields.proofs.CheckLemmas.{bind-as, bind-ok, must-as, must-ok}
use Rattle.converted_file.proofs.TakenFields.{ArePlainNames, whole_within-plain, range_within-plain, ratio-plain, weights-plain, amount_within-plain, new_name-plain, known_cell-plain, upstream-plain, downstream-plain}

-- the same draft in another format
abbrev pub in_format : ℕ → Draft → Draft
in_format other draft = record draft { format = other }

same_in_format : (other : ℕ) (made more : Draft) → ◌≡◌ {A = Result Draft Code} (Ok made) (Ok more) →
    ◌≡◌ {A = Result Draft Code} (Ok (in_format other made)) (Ok (in_format other more))
same_in_format other made more taken =
    let same : made ≡ more = cc taken in
    ap (λ (draft : Draft). Ok (in_format other draft)) same

-- the names of its cells are plain, and it is of this format
abbrev pub StaysPlain : (format : ℕ) → Draft → Type 0
StaysPlain format draft = ArePlainNames draft.cells × (draft.format ≡ format)

names_kept : (format : ℕ) (made more : Draft) → made.format ≡ format → ◌≡◌ {A = Result Draft Code} (Ok made) (Ok more) → ArePlainNames made.cells → StaysPlain format more
names_kept format made more own taken names =
    let same : made ≡ more = cc taken in
    subst (λ (draft : Draft). StaysPlain format draft) same (names, own)

-- the fields of so many places, from one on
abbrev pub fields_from : List (List ℕ) → (place count : ℕ) → List (List ℕ)
fields_from fields place zero = []
fields_from fields place (suc count) = field fields place ∷ fields_from fields (suc place) count

-- the fields behind the kind are plain, the record is taken alike in another format, and the names of the cells stay plain
abbrev pub IsTakenAlike : (other : ℕ) → (Draft → List (List ℕ) → Result Draft Code) → (later : ℕ) → Draft → List (List ℕ) → Draft → Type 0
IsTakenAlike other take later draft fields more =
    ArePlain (fields_from fields 1 later) × ((take (in_format other draft) fields ≡ Ok (in_format other more)) × StaysPlain draft.format more)

pub take_steps-alike : (other : ℕ) (draft more : Draft) (fields : List (List ℕ)) → ArePlainNames draft.cells → take_steps draft fields ≡ Ok more → IsTakenAlike other take_steps 1 draft fields more
unfolding take_steps
take_steps-alike other draft more fields names taken =
    let (first, taken0) = must-ok (is_none draft.steps) Repeated _ more taken in
    let (steps, (is_steps, taken1)) = bind-ok (whole_within 1 most_steps (field fields 1)) _ more taken0 in (
      (whole_within-plain 1 most_steps (field fields 1) steps is_steps, tt),
      (
        (must-as (is_none draft.steps) Repeated _ _ first
            (bind-as (whole_within 1 most_steps (field fields 1)) _ steps _ is_steps
            (same_in_format other _ more taken1))),
        names_kept draft.format _ more refl taken1 names,
      ),
    )

pub take_road-alike : (other : ℕ) (draft more : Draft) (fields : List (List ℕ)) → ArePlainNames draft.cells → take_road draft fields ≡ Ok more → IsTakenAlike other take_road 6 draft fields more
unfolding take_road
take_road-alike other draft more fields names taken =
    let (name, (is_name, taken1)) = bind-ok (new_name draft.cells (field fields 1)) _ more taken in
    let (room, (is_room, taken2)) = bind-ok (amount_within most_room (field fields 2)) _ more taken1 in
    let (capacity, (is_capacity, taken3)) = bind-ok (amount_within most_capacity (field fields 3)) _ more taken2 in
    let (pair, (is_pair, taken4)) = bind-ok (ratio most_ratio (field fields 4) (field fields 5)) _ more taken3 in
    let (plain_num, plain_den) = ratio-plain most_ratio (field fields 4) (field fields 5) pair is_pair in
    let (first, (is_first, taken5)) = bind-ok (amount_within room (field fields 6)) _ more taken4 in
    let (same, plain) = new_name-plain draft.cells (field fields 1) name is_name in (
      (
        plain,
        (
          amount_within-plain most_room (field fields 2) room is_room,
          (
            amount_within-plain most_capacity (field fields 3) capacity is_capacity,
            (
              plain_num,
              (
                plain_den,
                (amount_within-plain room (field fields 6) first is_first, tt),
              ),
            ),
          ),
        ),
      ),
      (
        (bind-as (new_name draft.cells (field fields 1)) _ name _ is_name
            (bind-as (amount_within most_room (field fields 2)) _ room _ is_room
            (bind-as (amount_within most_capacity (field fields 3)) _ capacity _ is_capacity
            (bind-as (ratio most_ratio (field fields 4) (field fields 5)) _ pair _ is_pair
            (bind-as (amount_within room (field fields 6)) _ first _ is_first
            (same_in_format other _ more taken5)))))),
        names_kept draft.format _ more refl taken5 (All-push (λ (cell : Cell). IsPlain cell.name) draft.cells (record { name = name; kind = kind.Road room pair.0 pair.1; first = first }) names (subst IsPlain same plain)),
      ),
    )

pub take_gate-alike : (other : ℕ) (draft more : Draft) (fields : List (List ℕ)) → ArePlainNames draft.cells → take_gate draft fields ≡ Ok more → IsTakenAlike other take_gate 3 draft fields more
unfolding take_gate
take_gate-alike other draft more fields names taken =
    let (name, (is_name, taken1)) = bind-ok (new_name draft.cells (field fields 1)) _ more taken in
    let (capacity, (is_capacity, taken2)) = bind-ok (amount_within most_capacity (field fields 2)) _ more taken1 in
    let (first, (is_first, taken3)) = bind-ok (amount_within most_parts (field fields 3)) _ more taken2 in
    let (same, plain) = new_name-plain draft.cells (field fields 1) name is_name in (
      (
        plain,
        (
          amount_within-plain most_capacity (field fields 2) capacity is_capacity,
          (amount_within-plain most_parts (field fields 3) first is_first, tt),
        ),
      ),
      (
        (bind-as (new_name draft.cells (field fields 1)) _ name _ is_name
            (bind-as (amount_within most_capacity (field fields 2)) _ capacity _ is_capacity
            (bind-as (amount_within most_parts (field fields 3)) _ first _ is_first
            (same_in_format other _ more taken3)))),
        names_kept draft.format _ more refl taken3 (All-push (λ (cell : Cell). IsPlain cell.name) draft.cells (record { name = name; kind = kind.Gate; first = first }) names (subst IsPlain same plain)),
      ),
    )

pub take_exit-alike : (other : ℕ) (draft more : Draft) (fields : List (List ℕ)) → ArePlainNames draft.cells → take_exit draft fields ≡ Ok more → IsTakenAlike other take_exit 2 draft fields more
unfolding take_exit
take_exit-alike other draft more fields names taken =
    let (name, (is_name, taken1)) = bind-ok (new_name draft.cells (field fields 1)) _ more taken in
    let (capacity, (is_capacity, taken2)) = bind-ok (amount_within most_capacity (field fields 2)) _ more taken1 in
    let (same, plain) = new_name-plain draft.cells (field fields 1) name is_name in (
      (
        plain,
        (amount_within-plain most_capacity (field fields 2) capacity is_capacity, tt),
      ),
      (
        (bind-as (new_name draft.cells (field fields 1)) _ name _ is_name
            (bind-as (amount_within most_capacity (field fields 2)) _ capacity _ is_capacity
            (same_in_format other _ more taken2))),
        names_kept draft.format _ more refl taken2 (All-push (λ (cell : Cell). IsPlain cell.name) draft.cells (record { name = name; kind = kind.Exit; first = 0 }) names (subst IsPlain same plain)),
      ),
    )

pub take_link-alike : (other : ℕ) (draft more : Draft) (fields : List (List ℕ)) → ArePlainNames draft.cells → take_link draft fields ≡ Ok more → IsTakenAlike other take_link 2 draft fields more
unfolding take_link
take_link-alike other draft more fields names taken =
    let (up, (is_up, taken1)) = bind-ok (upstream draft.cells draft.connectors None (field fields 1)) _ more taken in
    let (down, (is_down, taken2)) = bind-ok (downstream draft.cells draft.connectors None (field fields 2)) _ more taken1 in (
      (
        upstream-plain draft.cells draft.connectors None (field fields 1) up names is_up,
        (downstream-plain draft.cells draft.connectors None (field fields 2) down names is_down, tt),
      ),
      (
        (bind-as (upstream draft.cells draft.connectors None (field fields 1)) _ up _ is_up
            (bind-as (downstream draft.cells draft.connectors None (field fields 2)) _ down _ is_down
            (same_in_format other _ more taken2))),
        names_kept draft.format _ more refl taken2 names,
      ),
    )

pub take_merge-alike : (other : ℕ) (draft more : Draft) (fields : List (List ℕ)) → ArePlainNames draft.cells → take_merge draft fields ≡ Ok more → IsTakenAlike other take_merge 5 draft fields more
unfolding take_merge
take_merge-alike other draft more fields names taken =
    let (up1, (is_up1, taken1)) = bind-ok (upstream draft.cells draft.connectors None (field fields 1)) _ more taken in
    let (up2, (is_up2, taken2)) = bind-ok (upstream draft.cells draft.connectors (Some up1) (field fields 2)) _ more taken1 in
    let (down, (is_down, taken3)) = bind-ok (downstream draft.cells draft.connectors None (field fields 3)) _ more taken2 in
    let (pair, (is_pair, taken4)) = bind-ok (weights most_ratio (field fields 4) (field fields 5)) _ more taken3 in
    let (plain_first, plain_second) = weights-plain most_ratio (field fields 4) (field fields 5) pair is_pair in (
      (
        upstream-plain draft.cells draft.connectors None (field fields 1) up1 names is_up1,
        (
          upstream-plain draft.cells draft.connectors (Some up1) (field fields 2) up2 names is_up2,
          (
            downstream-plain draft.cells draft.connectors None (field fields 3) down names is_down,
            (
              plain_first,
              (plain_second, tt),
            ),
          ),
        ),
      ),
      (
        (bind-as (upstream draft.cells draft.connectors None (field fields 1)) _ up1 _ is_up1
            (bind-as (upstream draft.cells draft.connectors (Some up1) (field fields 2)) _ up2 _ is_up2
            (bind-as (downstream draft.cells draft.connectors None (field fields 3)) _ down _ is_down
            (bind-as (weights most_ratio (field fields 4) (field fields 5)) _ pair _ is_pair
            (same_in_format other _ more taken4))))),
        names_kept draft.format _ more refl taken4 names,
      ),
    )

pub take_diverge-alike : (other : ℕ) (draft more : Draft) (fields : List (List ℕ)) → ArePlainNames draft.cells → take_diverge draft fields ≡ Ok more → IsTakenAlike other take_diverge 5 draft fields more
unfolding take_diverge
take_diverge-alike other draft more fields names taken =
    let (up, (is_up, taken1)) = bind-ok (upstream draft.cells draft.connectors None (field fields 1)) _ more taken in
    let (down1, (is_down1, taken2)) = bind-ok (downstream draft.cells draft.connectors None (field fields 2)) _ more taken1 in
    let (down2, (is_down2, taken3)) = bind-ok (downstream draft.cells draft.connectors (Some down1) (field fields 3)) _ more taken2 in
    let (pair, (is_pair, taken4)) = bind-ok (weights most_ratio (field fields 4) (field fields 5)) _ more taken3 in
    let (plain_first, plain_second) = weights-plain most_ratio (field fields 4) (field fields 5) pair is_pair in (
      (
        upstream-plain draft.cells draft.connectors None (field fields 1) up names is_up,
        (
          downstream-plain draft.cells draft.connectors None (field fields 2) down1 names is_down1,
          (
            downstream-plain draft.cells draft.connectors (Some down1) (field fields 3) down2 names is_down2,
            (
              plain_first,
              (plain_second, tt),
            ),
          ),
        ),
      ),
      (
        (bind-as (upstream draft.cells draft.connectors None (field fields 1)) _ up _ is_up
            (bind-as (downstream draft.cells draft.connectors None (field fields 2)) _ down1 _ is_down1
            (bind-as (downstream draft.cells draft.connectors (Some down1) (field fields 3)) _ down2 _ is_down2
            (bind-as (weights most_ratio (field fields 4) (field fields 5)) _ pair _ is_pair
            (same_in_format other _ more taken4))))),
        names_kept draft.format _ more refl taken4 names,
      ),
    )

pub take_signal-alike : (other : ℕ) (draft more : Draft) (fields : List (List ℕ)) → ArePlainNames draft.cells → take_signal draft fields ≡ Ok more → IsTakenAlike other take_signal 5 draft fields more
unfolding take_signal
take_signal-alike other draft more fields names taken =
    let (cell, (is_cell, known)) = bind-ok (known_cell draft.cells (field fields 1)) _ more taken in
    let (passed0, known1) = must-ok (not (is_exit_at draft.cells cell)) WrongKind _ more known in
    let (passed1, taken1) = must-ok (not (is_some (signal_of draft.plan cell))) Repeated _ more known1 in
    let (cycle, (is_cycle, taken2)) = bind-ok (whole_within 1 most_steps (field fields 2)) _ more taken1 in
    let (offset, (is_offset, taken3)) = bind-ok (whole_within 0 (cycle - 1) (field fields 3)) _ more taken2 in
    let (range, (is_range, taken4)) = bind-ok (range_within cycle (field fields 4) (field fields 5)) _ more taken3 in
    let (plain_from, plain_to) = range_within-plain cycle (field fields 4) (field fields 5) range is_range in (
      (
        known_cell-plain draft.cells (field fields 1) cell names is_cell,
        (
          whole_within-plain 1 most_steps (field fields 2) cycle is_cycle,
          (
            whole_within-plain 0 (cycle - 1) (field fields 3) offset is_offset,
            (
              plain_from,
              (plain_to, tt),
            ),
          ),
        ),
      ),
      (
        (bind-as (known_cell draft.cells (field fields 1)) _ cell _ is_cell
            (must-as (not (is_exit_at draft.cells cell)) WrongKind _ _ passed0
            (must-as (not (is_some (signal_of draft.plan cell))) Repeated _ _ passed1
            (bind-as (whole_within 1 most_steps (field fields 2)) _ cycle _ is_cycle
            (bind-as (whole_within 0 (cycle - 1) (field fields 3)) _ offset _ is_offset
            (bind-as (range_within cycle (field fields 4) (field fields 5)) _ range _ is_range
            (same_in_format other _ more taken4))))))),
        names_kept draft.format _ more refl taken4 names,
      ),
    )

pub take_limit-alike : (other : ℕ) (draft more : Draft) (fields : List (List ℕ)) → ArePlainNames draft.cells → take_limit draft fields ≡ Ok more → IsTakenAlike other take_limit 4 draft fields more
unfolding take_limit
take_limit-alike other draft more fields names taken =
    let (cell, (is_cell, taken1)) = bind-ok (known_cell draft.cells (field fields 1)) _ more taken in
    let (range, (is_range, taken2)) = bind-ok (range_within most_steps (field fields 2) (field fields 3)) _ more taken1 in
    let (plain_from, plain_to) = range_within-plain most_steps (field fields 2) (field fields 3) range is_range in
    let (capacity, (is_capacity, taken3)) = bind-ok (amount_within most_capacity (field fields 4)) _ more taken2 in (
      (
        known_cell-plain draft.cells (field fields 1) cell names is_cell,
        (
          plain_from,
          (
            plain_to,
            (amount_within-plain most_capacity (field fields 4) capacity is_capacity, tt),
          ),
        ),
      ),
      (
        (bind-as (known_cell draft.cells (field fields 1)) _ cell _ is_cell
            (bind-as (range_within most_steps (field fields 2) (field fields 3)) _ range _ is_range
            (bind-as (amount_within most_capacity (field fields 4)) _ capacity _ is_capacity
            (same_in_format other _ more taken3)))),
        names_kept draft.format _ more refl taken3 names,
      ),
    )

pub take_demand-alike : (other : ℕ) (draft more : Draft) (fields : List (List ℕ)) → ArePlainNames draft.cells → take_demand draft fields ≡ Ok more → IsTakenAlike other take_demand 4 draft fields more
unfolding take_demand
take_demand-alike other draft more fields names taken =
    let (gate, (is_gate, known)) = bind-ok (known_cell draft.cells (field fields 1)) _ more taken in
    let (passed0, taken1) = must-ok (is_gate_at draft.cells gate) WrongKind _ more known in
    let (range, (is_range, taken2)) = bind-ok (range_within most_steps (field fields 2) (field fields 3)) _ more taken1 in
    let (plain_from, plain_to) = range_within-plain most_steps (field fields 2) (field fields 3) range is_range in
    let (amount, (is_amount, taken3)) = bind-ok (amount_within most_parts (field fields 4)) _ more taken2 in (
      (
        known_cell-plain draft.cells (field fields 1) gate names is_gate,
        (
          plain_from,
          (
            plain_to,
            (amount_within-plain most_parts (field fields 4) amount is_amount, tt),
          ),
        ),
      ),
      (
        (bind-as (known_cell draft.cells (field fields 1)) _ gate _ is_gate
            (must-as (is_gate_at draft.cells gate) WrongKind _ _ passed0
            (bind-as (range_within most_steps (field fields 2) (field fields 3)) _ range _ is_range
            (bind-as (amount_within most_parts (field fields 4)) _ amount _ is_amount
            (same_in_format other _ more taken3))))),
        names_kept draft.format _ more refl taken3 names,
      ),
    )

pub take_turn-alike : (other : ℕ) (draft more : Draft) (fields : List (List ℕ)) → ArePlainNames draft.cells → take_turn draft fields ≡ Ok more → IsTakenAlike other take_turn 5 draft fields more
unfolding take_turn
take_turn-alike other draft more fields names taken =
    let (cell, (is_cell, known)) = bind-ok (known_cell draft.cells (field fields 1)) _ more taken in
    let (passed0, taken1) = must-ok (list_any (diverges_from cell) draft.connectors) WrongKind _ more known in
    let (range, (is_range, taken2)) = bind-ok (range_within most_steps (field fields 2) (field fields 3)) _ more taken1 in
    let (plain_from, plain_to) = range_within-plain most_steps (field fields 2) (field fields 3) range is_range in
    let (pair, (is_pair, taken3)) = bind-ok (weights most_ratio (field fields 4) (field fields 5)) _ more taken2 in
    let (plain_first, plain_second) = weights-plain most_ratio (field fields 4) (field fields 5) pair is_pair in (
      (
        known_cell-plain draft.cells (field fields 1) cell names is_cell,
        (
          plain_from,
          (
            plain_to,
            (
              plain_first,
              (plain_second, tt),
            ),
          ),
        ),
      ),
      (
        (bind-as (known_cell draft.cells (field fields 1)) _ cell _ is_cell
            (must-as (list_any (diverges_from cell) draft.connectors) WrongKind _ _ passed0
            (bind-as (range_within most_steps (field fields 2) (field fields 3)) _ range _ is_range
            (bind-as (weights most_ratio (field fields 4) (field fields 5)) _ pair _ is_pair
            (same_in_format other _ more taken3))))),
        names_kept draft.format _ more refl taken3 names,
      ),
    )

pub take_speed-alike : (other : ℕ) (draft more : Draft) (fields : List (List ℕ)) → ArePlainNames draft.cells → take_speed draft fields ≡ Ok more → IsTakenAlike other take_speed 5 draft fields more
unfolding take_speed
take_speed-alike other draft more fields names taken =
    let (cell, (is_cell, known)) = bind-ok (known_cell draft.cells (field fields 1)) _ more taken in
    let (passed0, taken1) = must-ok (is_road_at draft.cells cell) WrongKind _ more known in
    let (range, (is_range, taken2)) = bind-ok (range_within most_steps (field fields 2) (field fields 3)) _ more taken1 in
    let (plain_from, plain_to) = range_within-plain most_steps (field fields 2) (field fields 3) range is_range in
    let (pair, (is_pair, taken3)) = bind-ok (ratio most_ratio (field fields 4) (field fields 5)) _ more taken2 in
    let (plain_first, plain_second) = ratio-plain most_ratio (field fields 4) (field fields 5) pair is_pair in (
      (
        known_cell-plain draft.cells (field fields 1) cell names is_cell,
        (
          plain_from,
          (
            plain_to,
            (
              plain_first,
              (plain_second, tt),
            ),
          ),
        ),
      ),
      (
        (bind-as (known_cell draft.cells (field fields 1)) _ cell _ is_cell
            (must-as (is_road_at draft.cells cell) WrongKind _ _ passed0
            (bind-as (range_within most_steps (field fields 2) (field fields 3)) _ range _ is_range
            (bind-as (ratio most_ratio (field fields 4) (field fields 5)) _ pair _ is_pair
            (same_in_format other _ more taken3))))),
        names_kept draft.format _ more refl taken3 names,
      ),
    )

pub take_region-alike : (other : ℕ) (draft more : Draft) (fields : List (List ℕ)) → ArePlainNames draft.cells → take_region draft fields ≡ Ok more → IsTakenAlike other take_region 2 draft fields more
unfolding take_region
take_region-alike other draft more fields names taken =
    let (cell, (is_cell, known)) = bind-ok (known_cell draft.cells (field fields 1)) _ more taken in
    let (passed0, taken1) = must-ok (is_none (region_in draft.regions cell)) Repeated _ more known in
    let (number, (is_number, taken2)) = bind-ok (whole_within 0 (most_regions - 1) (field fields 2)) _ more taken1 in (
      (
        known_cell-plain draft.cells (field fields 1) cell names is_cell,
        (whole_within-plain 0 (most_regions - 1) (field fields 2) number is_number, tt),
      ),
      (
        (bind-as (known_cell draft.cells (field fields 1)) _ cell _ is_cell
            (must-as (is_none (region_in draft.regions cell)) Repeated _ _ passed0
            (bind-as (whole_within 0 (most_regions - 1) (field fields 2)) _ number _ is_number
            (same_in_format other _ more taken2)))),
        names_kept draft.format _ more refl taken2 names,
      ),
    )
