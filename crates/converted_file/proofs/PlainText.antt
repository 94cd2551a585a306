-- Texts of letters, digits, `_`, `-` and `.` alone, as each field of a record that is taken.
use Rattle.std.proofs.Common.{ℕ, ◌≡◌, ◌<◌, ◌==◌, ◌||◌, ◌&&◌, Bool, true, false, suc, ◌+◌, List, [], ◌∷◌, Some, refl, subst, length, arith, take, drop, inl, inr}
use Rattle.std.specs.Prelude.{bytes_eq, not, nat_lt, nat_le, get_or, All}
use Rattle.std.specs.Char.{is_ascii_digit, is_ascii_alphanumeric}
use Rattle.std.specs.List.{list_all, list_any, before_first, after_first, position_or_len}
use Rattle.std.specs.Cmp.Lexicographic.{bytes_decides}
use Rattle.std.proofs.lemmas.Bool.{and_parts, and_from, cases_Bool, or_right}
use Rattle.std.proofs.lemmas.Bool.Decides.{nat_tests}
use Rattle.std.proofs.lemmas.List.Quantifiers.{position-Some}
use Rattle.fixed_flow.specs.Spelling.{amount_of, is_digits, is_point, whole_of}
use Rattle.record_fields.specs.CellName.{allowed_in_name, is_name}
use Rattle.network_file.specs.Cells.{cell_named}
use Rattle.network_file.specs.declared.cell.Cell.{Cell}
use Rattle.network_file.specs.declared.cell.Kind.TheVariants.{Gate}

-- such a text, with at least one byte
pub record IsPlain (text : List ℕ) : Type 0 where
  pub some : 0 < length text
  pub bytes : list_all allowed_in_name text ≡ true

-- a name is plain
pub is_name-plain : (text : List ℕ) → is_name text ≡ true → IsPlain text
unfolding is_name
is_name-plain text named =
    let (sized, allowed) = and_parts (nat_le 1 (length text) && nat_le (length text) 32) (list_all allowed_in_name text) named in
    let (some, few) = and_parts (nat_le 1 (length text)) (nat_le (length text) 32) sized in
    record { some = grind (arith, nat_tests); bytes = allowed }

digit-allowed : (b : ℕ) → is_ascii_digit b ≡ true → allowed_in_name b ≡ true
digit-allowed b digit = rw digit refl

digits-allowed : (text : List ℕ) → list_all is_ascii_digit text ≡ true → list_all allowed_in_name text ≡ true
digits-allowed [] all = refl
digits-allowed (b ∷ rest) all =
    let (here, more) = and_parts (is_ascii_digit b) (list_all is_ascii_digit rest) all in
    and_from (allowed_in_name b) (list_all allowed_in_name rest) (digit-allowed b here) (digits-allowed rest more)

-- digits are some, and all of them digits
is_digits-parts : (most : ℕ) (text : List ℕ) → is_digits most text ≡ true → (0 < length text) × (list_all is_ascii_digit text ≡ true)
is_digits-parts most text digits =
    let (sized, all) = and_parts (nat_lt 0 (length text) && nat_le (length text) most) (list_all is_ascii_digit text) digits in
    let (some, few) = and_parts (nat_lt 0 (length text)) (nat_le (length text) most) sized in
    (grind (arith, nat_tests), all)

-- a whole number is plain
pub whole_of-plain : (text : List ℕ) (n : ℕ) → whole_of text ≡ Some n → IsPlain text
unfolding whole_of
whole_of-plain text n spelled = elim (cases_Bool (is_digits 9 text)) [
  | inl digits ↦
      let (some, all) = is_digits-parts 9 text digits in
      record { some = some; bytes = digits-allowed text all }
  | inr other ↦ cc (rw other at spelled)
]

-- digits before the first point, and behind it where there is one
pointed-allowed : (text : List ℕ) → list_all is_ascii_digit (before_first is_point text) ≡ true
    → (not (list_any is_point text) || list_all is_ascii_digit (after_first is_point text)) ≡ true → list_all allowed_in_name text ≡ true
pointed-allowed [] before after = refl
pointed-allowed (b ∷ rest) before after = elim (cases_Bool (is_point b)) [
  | inl point ↦
      and_from (allowed_in_name b) (list_all allowed_in_name rest)
      (or_right (is_ascii_alphanumeric b || (b == 95) || (b == 45)) (b == 46) point) (digits-allowed rest (rw point at after))
  | inr other ↦
      let place : position_or_len is_point (b ∷ rest) ≡ suc (position_or_len is_point rest) = rw other (omega arith) in
      let behind : position_or_len is_point (b ∷ rest) + 1 ≡ suc (position_or_len is_point rest + 1) = omega (arith, place) in
      let front : list_all is_ascii_digit (take (suc (position_or_len is_point rest)) (b ∷ rest)) ≡ true =
      subst (λ n. list_all is_ascii_digit (take n (b ∷ rest)) ≡ true) place before in
      let back : (not (list_any is_point (b ∷ rest)) || list_all is_ascii_digit (drop (suc (position_or_len is_point rest + 1)) (b ∷ rest))) ≡ true =
      subst (λ n. (not (list_any is_point (b ∷ rest)) || list_all is_ascii_digit (drop n (b ∷ rest))) ≡ true) behind after in
      let (here, more) = and_parts (is_ascii_digit b) (list_all is_ascii_digit (before_first is_point rest)) front in
      and_from (allowed_in_name b) (list_all allowed_in_name rest) (digit-allowed b here) (pointed-allowed rest more (rw other at back))
]

some_before : (text : List ℕ) → 0 < length (before_first is_point text) → 0 < length text
some_before [] some = some
some_before (b ∷ rest) some = omega arith

decimals-digits : (pointed : Bool) (decimals : List ℕ) → (not pointed || is_digits 6 decimals) ≡ true → (not pointed || list_all is_ascii_digit decimals) ≡ true
decimals-digits false decimals spelled = refl
decimals-digits true decimals spelled = (is_digits-parts 6 decimals spelled).1

-- an amount is plain
pub amount_of-plain : (text : List ℕ) (n : ℕ) → amount_of text ≡ Some n → IsPlain text
unfolding amount_of
amount_of-plain text n spelled = elim (cases_Bool (is_digits 12 (before_first is_point text) && (not (list_any is_point text) || is_digits 6 (after_first is_point text)))) [
  | inl amount ↦
      let (whole, decimals) =
      and_parts (is_digits 12 (before_first is_point text)) (not (list_any is_point text) || is_digits 6 (after_first is_point text)) amount in
      let (some, before) = is_digits-parts 12 (before_first is_point text) whole in
      record {
        some = some_before text some;
        bytes = pointed-allowed text before (decimals-digits (list_any is_point text) (after_first is_point text) decimals);
      }
  | inr other ↦ cc (rw other at spelled)
]

no_cell : Cell
no_cell = record { name = []; kind = Gate; first = 0 }

-- the name of a cell is plain, where the names of all cells are
pub cell_named-plain : (cells : List Cell) (text : List ℕ) (i : ℕ) → All (λ cell. IsPlain cell.name) cells → cell_named cells text ≡ Some i → IsPlain text
unfolding cell_named
cell_named-plain cells text i plain found =
    let (there, same, first) = position-Some (λ (cell : Cell). bytes_eq cell.name text) cells i no_cell found in
    subst IsPlain ((bytes_decides (get_or cells i no_cell).name text).0 same) (plain i no_cell there)
