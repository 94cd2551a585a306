-- A field that is taken is plain.
use Rattle.std.proofs.Common.{ℕ, ◌≡◌, ◌+◌, ◌-◌, List, Ok}
use Rattle.std.specs.Prelude.{ok_or, All, Option, is_none}
use Rattle.fixed_flow.specs.Spelling.{amount_of, whole_of}
use Rattle.record_fields.specs.CellName.{is_name}
use Rattle.network_file.specs.Cells.{cell_named}
use Rattle.record_fields.specs.Fields.{whole_within, range_within, ratio, weights, amount_within}
use Rattle.network_file.specs.CellFields.{new_name, known_cell, upstream, downstream}
use Rattle.network_file.specs.declared.cell.Cell.{Cell}
use Rattle.record_fields.specs.declared.code.Code.TheVariants.{BadName, BadNumber, Repeated, Unknown}
use Rattle.network_file.specs.declared.connector.Connector.{Connector}
use Rattle.record_fields.proofs.CheckLemmas.{bind-ok, must-ok, ok_or-some}
use Rattle.converted_file.proofs.PlainText.{IsPlain, amount_of-plain, cell_named-plain, is_name-plain, whole_of-plain}

pub whole_within-plain : (low high : ℕ) (text : List ℕ) (n : ℕ) → whole_within low high text ≡ Ok n → IsPlain text
unfolding whole_within
whole_within-plain low high text n taken =
    let (value, (read, rest)) = bind-ok (ok_or (whole_of text) BadNumber) _ n taken in
    whole_of-plain text value (ok_or-some (whole_of text) BadNumber value read)

pub range_within-plain : (most : ℕ) (first last : List ℕ) (range : ℕ × ℕ) → range_within most first last ≡ Ok range → IsPlain first × IsPlain last
unfolding range_within
range_within-plain most first last range taken =
    let (from, (is_from, taken1)) = bind-ok (whole_within 0 (most - 1) first) _ range taken in
    let (to, (is_to, taken2)) = bind-ok (whole_within (from + 1) most last) _ range taken1 in
    (whole_within-plain 0 (most - 1) first from is_from, whole_within-plain (from + 1) most last to is_to)

pub ratio-plain : (most : ℕ) (first second : List ℕ) (pair : ℕ × ℕ) → ratio most first second ≡ Ok pair → IsPlain first × IsPlain second
unfolding ratio
ratio-plain most first second pair taken =
    let (num, (is_num, taken1)) = bind-ok (whole_within 1 most first) _ pair taken in
    let (den, (is_den, taken2)) = bind-ok (whole_within num most second) _ pair taken1 in
    (whole_within-plain 1 most first num is_num, whole_within-plain num most second den is_den)

pub weights-plain : (most : ℕ) (first second : List ℕ) (pair : ℕ × ℕ) → weights most first second ≡ Ok pair → IsPlain first × IsPlain second
unfolding weights
weights-plain most first second pair taken =
    let (weight1, (is_weight1, taken1)) = bind-ok (whole_within 1 most first) _ pair taken in
    let (weight2, (is_weight2, taken2)) = bind-ok (whole_within 1 most second) _ pair taken1 in
    (whole_within-plain 1 most first weight1 is_weight1, whole_within-plain 1 most second weight2 is_weight2)

pub amount_within-plain : (most : ℕ) (text : List ℕ) (n : ℕ) → amount_within most text ≡ Ok n → IsPlain text
unfolding amount_within
amount_within-plain most text n taken =
    let (value, (read, rest)) = bind-ok (ok_or (amount_of text) BadNumber) _ n taken in
    amount_of-plain text value (ok_or-some (amount_of text) BadNumber value read)

-- the text of a new name is that name, and plain
pub new_name-plain : (cells : List Cell) (text name : List ℕ) → new_name cells text ≡ Ok name → (text ≡ name) × IsPlain text
unfolding new_name
new_name-plain cells text name taken =
    let (named, taken1) = must-ok (is_name text) BadName _ name taken in
    let (fresh, taken2) = must-ok (is_none (cell_named cells text)) Repeated _ name taken1 in
    (cc taken2, is_name-plain text named)

-- the names of the cells are plain
abbrev pub ArePlainNames : List Cell → Type 0
ArePlainNames cells = All (λ cell. IsPlain cell.name) cells

pub known_cell-plain : (cells : List Cell) (text : List ℕ) (i : ℕ) → ArePlainNames cells → known_cell cells text ≡ Ok i → IsPlain text
unfolding known_cell
known_cell-plain cells text i names taken =
    cell_named-plain cells text i names (ok_or-some (cell_named cells text) Unknown i taken)

pub upstream-plain : (cells : List Cell) (connectors : List Connector) (earlier : Option ℕ) (text : List ℕ) (i : ℕ) → ArePlainNames cells → upstream cells connectors earlier text ≡ Ok i → IsPlain text
unfolding upstream
upstream-plain cells connectors earlier text i names taken =
    let (cell, (known, rest)) = bind-ok (known_cell cells text) _ i taken in
    known_cell-plain cells text cell names known

pub downstream-plain : (cells : List Cell) (connectors : List Connector) (earlier : Option ℕ) (text : List ℕ) (i : ℕ) → ArePlainNames cells → downstream cells connectors earlier text ≡ Ok i → IsPlain text
unfolding downstream
downstream-plain cells connectors earlier text i names taken =
    let (cell, (known, rest)) = bind-ok (known_cell cells text) _ i taken in
    known_cell-plain cells text cell names known
