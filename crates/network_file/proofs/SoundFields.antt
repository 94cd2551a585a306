-- What is known of a field that is taken.
use Rattle.std.proofs.Common.{ℕ, ◌≡◌, ◌<◌, ◌≤◌, ◌+◌, ◌-◌, ◌&&◌, ◌||◌, false, true, List, Ok, Some, None, eqb, length, not, refl, subst, arith}
use Rattle.std.specs.Prelude.{Option, is_none, nat_le, ok_or}
use Rattle.std.specs.List.{list_any}
use Rattle.std.specs.Option.{option_map_or}
use Rattle.std.proofs.lemmas.Bool.{and_parts, leb-true, not-true, or_parts}
use Rattle.fixed_flow.specs.Spelling.{amount_of, whole_of}
use Rattle.record_fields.specs.CellName.{is_name}
use Rattle.record_fields.specs.Fields.{amount_within, range_within, ratio, weights, whole_within}
use Rattle.record_fields.specs.declared.code.Code.TheVariants.{BadName, BadNumber, InTaken, OutOfRange, OutTaken, Repeated, Unknown, WrongKind}
use Rattle.record_fields.proofs.CheckLemmas.{bind-ok, must-ok, ok_or-some}
use Rattle.network_file.specs.CellFields.{downstream, known_cell, new_name, upstream}
use Rattle.network_file.specs.Cells.{cell_named, is_exit_at, is_gate_at}
use Rattle.network_file.specs.Connectors.{leads_into, leads_out_of}
use Rattle.network_file.specs.declared.cell.Cell.{Cell}
use Rattle.network_file.specs.declared.connector.Connector.{Connector}
use Rattle.network_file.proofs.CellLemmas.{cell_named-there}

pub whole_within-bounds : (low high : ℕ) (text : List ℕ) (n : ℕ) → whole_within low high text ≡ Ok n → (low ≤ n) × (n ≤ high)
unfolding whole_within
whole_within-bounds low high text n taken =
    let (value, (read, taken1)) = bind-ok (ok_or (whole_of text) BadNumber) _ n taken in
    let (within, taken2) = must-ok (nat_le low value && nat_le value high) OutOfRange _ n taken1 in
    let (above, below) = and_parts (nat_le low value) (nat_le value high) within in
    let same : value ≡ n = cc taken2 in
    subst (λ k. (low ≤ k) × (k ≤ high)) same (leb-true low value above, leb-true value high below)

pub amount_within-bound : (most : ℕ) (text : List ℕ) (n : ℕ) → amount_within most text ≡ Ok n → n ≤ most
unfolding amount_within
amount_within-bound most text n taken =
    let (value, (read, taken1)) = bind-ok (ok_or (amount_of text) BadNumber) _ n taken in
    let (within, taken2) = must-ok (nat_le value most) OutOfRange _ n taken1 in
    let same : value ≡ n = cc taken2 in
    subst (λ k. k ≤ most) same (leb-true value most within)

-- a range has a step, and ends by the most
pub range_within-bounds : (most : ℕ) (first last : List ℕ) (range : ℕ × ℕ) → range_within most first last ≡ Ok range → (range.0 < range.1) × (range.1 ≤ most)
unfolding range_within
range_within-bounds most first last range taken =
    let (from, (is_from, taken1)) = bind-ok (whole_within 0 (most - 1) first) _ range taken in
    let (to, (is_to, taken2)) = bind-ok (whole_within (from + 1) most last) _ range taken1 in
    let (later, within) = whole_within-bounds (from + 1) most last to is_to in
    let same : ◌≡◌ {A = ℕ × ℕ} (from, to) range = cc taken2 in
    subst (λ (r : ℕ × ℕ). (r.0 < r.1) × (r.1 ≤ most)) same (omega (arith, later), within)

-- a ratio is more than 0 and at most 1
pub ratio-bounds : (most : ℕ) (first second : List ℕ) (pair : ℕ × ℕ) → ratio most first second ≡ Ok pair → (1 ≤ pair.0) × (pair.0 ≤ pair.1) × (pair.1 ≤ most)
unfolding ratio
ratio-bounds most first second pair taken =
    let (num, (is_num, taken1)) = bind-ok (whole_within 1 most first) _ pair taken in
    let (den, (is_den, taken2)) = bind-ok (whole_within num most second) _ pair taken1 in
    let (positive, small) = whole_within-bounds 1 most first num is_num in
    let (at_most_one, within) = whole_within-bounds num most second den is_den in
    let same : ◌≡◌ {A = ℕ × ℕ} (num, den) pair = cc taken2 in
    subst (λ (p : ℕ × ℕ). (1 ≤ p.0) × (p.0 ≤ p.1) × (p.1 ≤ most)) same (positive, at_most_one, within)

-- each of two weights is from 1 to the most
pub weights-bounds : (most : ℕ) (first second : List ℕ) (pair : ℕ × ℕ) → weights most first second ≡ Ok pair
    → ((1 ≤ pair.0) × (pair.0 ≤ most)) × ((1 ≤ pair.1) × (pair.1 ≤ most))
unfolding weights
weights-bounds most first second pair taken =
    let (weight1, (is_weight1, taken1)) = bind-ok (whole_within 1 most first) _ pair taken in
    let (weight2, (is_weight2, taken2)) = bind-ok (whole_within 1 most second) _ pair taken1 in
    let same : ◌≡◌ {A = ℕ × ℕ} (weight1, weight2) pair = cc taken2 in
    subst (λ (p : ℕ × ℕ). ((1 ≤ p.0) × (p.0 ≤ most)) × ((1 ≤ p.1) × (p.1 ≤ most))) same
    (whole_within-bounds 1 most first weight1 is_weight1, whole_within-bounds 1 most second weight2 is_weight2)

-- a test that there is none
pub none-is : {A : Type 0} (o : Option A) → is_none o ≡ true → o ≡ None
none-is None is = refl
none-is (Some a) is = cc is

-- no cell has a new name
pub new_name-fresh : (cells : List Cell) (text name : List ℕ) → new_name cells text ≡ Ok name → cell_named cells name ≡ None
unfolding new_name
new_name-fresh cells text name taken =
    let (named, taken1) = must-ok (is_name text) BadName _ name taken in
    let (fresh, taken2) = must-ok (is_none (cell_named cells text)) Repeated _ name taken1 in
    let same : text ≡ name = cc taken2 in
    subst (λ n. cell_named cells n ≡ None) same (none-is (cell_named cells text) fresh)

-- a known cell is there
pub known_cell-there : (cells : List Cell) (text : List ℕ) (i : ℕ) → known_cell cells text ≡ Ok i → i < length cells
unfolding known_cell
known_cell-there cells text i taken = rw (ok_or-some (cell_named cells text) Unknown i taken) at (cell_named-there cells text)

-- a cell that may stand upstream of a new connector, behind an earlier field of its record
pub record MaySend (cells : List Cell) (connectors : List Connector) (earlier : Option ℕ) (i : ℕ) : Type 0 where
  pub there : i < length cells
  pub sends : is_exit_at cells i ≡ false
  pub free : list_any (leads_out_of i) connectors ≡ false
  pub apart : option_map_or (eqb i) earlier false ≡ false

pub upstream-sends : (cells : List Cell) (connectors : List Connector) (earlier : Option ℕ) (text : List ℕ) (i : ℕ) → upstream cells connectors earlier text ≡ Ok i
    → MaySend cells connectors earlier i
unfolding upstream
upstream-sends cells connectors earlier text i taken =
    let (cell, (known, taken1)) = bind-ok (known_cell cells text) _ i taken in
    let (sends, taken2) = must-ok (not (is_exit_at cells cell)) WrongKind _ i taken1 in
    let (free, taken3) = must-ok (not (list_any (leads_out_of cell) connectors || option_map_or (eqb cell) earlier false)) OutTaken _ i taken2 in
    let (none, apart) = or_parts (list_any (leads_out_of cell) connectors) (option_map_or (eqb cell) earlier false) (not-true _ free) in
    let same : cell ≡ i = cc taken3 in
    subst (MaySend cells connectors earlier) same
    (record { there = known_cell-there cells text cell known; sends = not-true _ sends; free = none; apart = apart })

-- a cell that may stand downstream of a new connector, behind an earlier field of its record
pub record MayReceive (cells : List Cell) (connectors : List Connector) (earlier : Option ℕ) (i : ℕ) : Type 0 where
  pub there : i < length cells
  pub receives : is_gate_at cells i ≡ false
  pub free : list_any (leads_into i) connectors ≡ false
  pub apart : option_map_or (eqb i) earlier false ≡ false

pub downstream-receives : (cells : List Cell) (connectors : List Connector) (earlier : Option ℕ) (text : List ℕ) (i : ℕ) → downstream cells connectors earlier text ≡ Ok i
    → MayReceive cells connectors earlier i
unfolding downstream
downstream-receives cells connectors earlier text i taken =
    let (cell, (known, taken1)) = bind-ok (known_cell cells text) _ i taken in
    let (receives, taken2) = must-ok (not (is_gate_at cells cell)) WrongKind _ i taken1 in
    let (free, taken3) = must-ok (not (list_any (leads_into cell) connectors || option_map_or (eqb cell) earlier false)) InTaken _ i taken2 in
    let (none, apart) = or_parts (list_any (leads_into cell) connectors) (option_map_or (eqb cell) earlier false) (not-true _ free) in
    let same : cell ≡ i = cc taken3 in
    subst (MayReceive cells connectors earlier) same
    (record { there = known_cell-there cells text cell known; receives = not-true _ receives; free = none; apart = apart })
