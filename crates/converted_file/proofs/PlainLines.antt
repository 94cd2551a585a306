-- Lines of plain fields with commas between them are read as the records of these fields.
use Rattle.std.proofs.Common.{ℕ, suc, zero, ◌≡◌, ◌<◌, ◌+◌, ◌==◌, true, false, List, [], ◌∷◌, ◌++◌, Some, refl, sym, ap, ◌∙◌, length, ◌≤◌, arith, append_assoc, inl, inr, drop, length-append}
use Rattle.std.specs.Prelude.{⊤, codes}
use Rattle.std.specs.List.{flat_map, list_all}
use Rattle.std.proofs.lemmas.List.{append-nil}
use Rattle.std.proofs.lemmas.Bool.{and_parts, cases_Bool, eqb-true}
use Rattle.csv.specs.Machine.{next_record}
use Rattle.csv.specs.Reading.{records_from, strip_bom}
use Rattle.csv.specs.declared.parser.State.TheVariants as st
use Rattle.record_fields.specs.CellName.{allowed_in_name}
use Rattle.converted_file.specs.Converted.{converted, header_line, joined, record_line}
use Rattle.record_fields.specs.FileRecords.{config, file_records_of}
use Rattle.converted_file.proofs.PlainText.{IsPlain}

-- each field is plain
abbrev pub ArePlain : List (List ℕ) → Type 0
ArePlain [] = ⊤
ArePlain (field ∷ rest) = IsPlain field × ArePlain rest

-- a record of plain fields, with at least one
pub record IsPlainRecord (fields : List (List ℕ)) : Type 0 where
  pub some : 0 < length fields
  pub each : ArePlain fields

abbrev pub ArePlainRecords : List (List (List ℕ)) → Type 0
ArePlainRecords [] = ⊤
ArePlainRecords (fields ∷ rest) = IsPlainRecord fields × ArePlainRecords rest

-- an allowed byte is not one that isn't allowed
other-byte : (b mark : ℕ) → allowed_in_name mark ≡ false → allowed_in_name b ≡ true → (b == mark) ≡ false
other-byte b mark refused allowed = elim (cases_Bool (b == mark)) [
  | inl same ↦ cc (refused, rw (eqb-true b mark same) at allowed)
  | inr other ↦ other
]

other-first : (b mark : ℕ) → allowed_in_name mark ≡ false → allowed_in_name b ≡ true → (mark == b) ≡ false
other-first b mark refused allowed = elim (cases_Bool (mark == b)) [
  | inl same ↦ cc (refused, rw (sym (eqb-true mark b same)) at allowed)
  | inr other ↦ other
]

-- bytes that mark nothing join the field
plain-run : (fields : List (List ℕ)) (field text tail : List ℕ) → list_all allowed_in_name text ≡ true
    → next_record config st.InField fields field (text ++ tail) ≡ next_record config st.InField fields (field ++ text) tail
unfolding next_record
plain-run fields field [] tail allowed = rw (append-nil field) refl
plain-run fields field (b ∷ rest) tail allowed =
    let (here, more) = and_parts (allowed_in_name b) (list_all allowed_in_name rest) allowed in
    rw (other-byte b 44 refl here, other-byte b 13 refl here, other-byte b 10 refl here) (plain-run fields (field ++ (b ∷ [])) rest tail more
    ∙ ap (λ (f : List ℕ). next_record config st.InField fields f tail) (append_assoc field (b ∷ []) rest))

-- a byte that marks nothing starts a field
start_field-plain : (fields : List (List ℕ)) (b : ℕ) (tail : List ℕ) → allowed_in_name b ≡ true
    → next_record config st.StartField fields [] (b ∷ tail) ≡ next_record config st.InField fields [] (b ∷ tail)
unfolding next_record
start_field-plain fields b tail allowed = rw (other-byte b 34 refl allowed) refl

-- it starts a record as it starts a field
start_record-plain : (fields : List (List ℕ)) (b : ℕ) (tail : List ℕ) → allowed_in_name b ≡ true
    → next_record config st.StartRecord fields [] (b ∷ tail) ≡ next_record config st.StartField fields [] (b ∷ tail)
unfolding next_record
start_record-plain fields b tail allowed =
    rw (other-byte b 13 refl allowed, other-byte b 10 refl allowed, other-first b 35 refl allowed) refl

first-allowed : (b : ℕ) (rest : List ℕ) → IsPlain (b ∷ rest) → allowed_in_name b ≡ true
first-allowed b rest plain = (and_parts (allowed_in_name b) (list_all allowed_in_name rest) plain.bytes).0

-- a plain field from its start
field-run : (fields : List (List ℕ)) (field tail : List ℕ) → IsPlain field
    → next_record config st.StartField fields [] (field ++ tail) ≡ next_record config st.InField fields field tail
field-run fields [] tail plain = absurd (omega (arith, plain.some))
field-run fields (b ∷ rest) tail plain =
    start_field-plain fields b (rest ++ tail) (first-allowed b rest plain) ∙ plain-run fields [] (b ∷ rest) tail plain.bytes

-- a line feed ends the field and the record
end-record : (before : List (List ℕ)) (field tail : List ℕ)
    → next_record config st.InField before field (10 ∷ tail) ≡ Some (before ++ (field ∷ []), st.StartRecord, tail)
unfolding next_record
end-record before field tail = refl

-- a comma ends the field
end-field : (before : List (List ℕ)) (field tail : List ℕ)
    → next_record config st.InField before field (44 ∷ tail) ≡ next_record config st.StartField (before ++ (field ∷ [])) [] tail
unfolding next_record
end-field before field tail = refl

-- the fields of a line, from the start of one
fields-run : (before : List (List ℕ)) (field : List ℕ) (rest : List (List ℕ)) (tail : List ℕ) → ArePlain (field ∷ rest)
    → next_record config st.StartField before [] (joined (field ∷ rest) ++ (10 ∷ tail)) ≡ Some (before ++ (field ∷ rest), st.StartRecord, tail)
fields-run before field [] tail plain = field-run before field (10 ∷ tail) plain.0 ∙ end-record before field tail
fields-run before field (next ∷ more) tail plain =
    let text : joined (field ∷ next ∷ more) ++ (10 ∷ tail) ≡ field ++ (44 ∷ (joined (next ∷ more) ++ (10 ∷ tail))) =
    append_assoc field (44 ∷ joined (next ∷ more)) (10 ∷ tail) in
    rw text (field-run before field _ plain.0 ∙ end-field before field (joined (next ∷ more) ++ (10 ∷ tail)) ∙ fields-run (before ++ (field ∷ [])) next more tail plain.1
    ∙ rw (append_assoc before (field ∷ []) (next ∷ more)) refl)

-- a text of plain fields starts a record as it starts a field
record-start : (field : List ℕ) (rest : List (List ℕ)) (tail : List ℕ) → IsPlain field
    → next_record config st.StartRecord [] [] (joined (field ∷ rest) ++ tail) ≡ next_record config st.StartField [] [] (joined (field ∷ rest) ++ tail)
record-start [] rest tail plain = absurd (omega (arith, plain.some))
record-start (b ∷ bs) [] tail plain = start_record-plain [] b _ (first-allowed b bs plain)
record-start (b ∷ bs) (next ∷ more) tail plain = start_record-plain [] b _ (first-allowed b bs plain)

-- a line is read as its record
record_line-read : (fields : List (List ℕ)) (tail : List ℕ) → IsPlainRecord fields
    → next_record config st.StartRecord [] [] (record_line fields ++ tail) ≡ Some (fields, st.StartRecord, tail)
record_line-read [] tail plain = absurd (omega (arith, plain.some))
record_line-read (field ∷ rest) tail plain =
    let text : record_line (field ∷ rest) ++ tail ≡ joined (field ∷ rest) ++ (10 ∷ tail) = append_assoc (joined (field ∷ rest)) (10 ∷ []) tail in
    rw text (record-start field rest (10 ∷ tail) plain.each.0 ∙ fields-run [] field rest tail plain.each)

-- lines are read as their records
lines-read : (n : ℕ) (rows : List (List (List ℕ))) → length rows < n → ArePlainRecords rows → records_from config n st.StartRecord (flat_map record_line rows) ≡ rows
unfolding records_from next_record
lines-read zero rows enough plain = absurd (omega arith)
lines-read (suc n) [] enough plain = refl
lines-read (suc n) (fields ∷ rest) enough plain =
    rw (record_line-read fields (flat_map record_line rest) plain.0) (ap (λ (rows : List (List (List ℕ))). fields ∷ rows) (lines-read n rest (omega arith) plain.1))

length-lines : (rows : List (List (List ℕ))) → length rows ≤ length (flat_map record_line rows)
length-lines [] = omega arith
length-lines (fields ∷ rest) =
    omega (arith, length-lines rest, length-append (record_line fields) (flat_map record_line rest), length-append (joined fields) (10 ∷ []))

-- the headers of formats 2 and 3
abbrev pub header_2 : List (List ℕ)
header_2 = codes "ctm" ∷ codes "2" ∷ []

abbrev pub header_3 : List (List ℕ)
header_3 = codes "ctm" ∷ codes "3" ∷ []

-- the lines of a converted file: its header, and then the file's own records behind its header
abbrev pub AreLinesOf : (bytes : List ℕ) → (header : List (List ℕ)) → Type 0
AreLinesOf bytes header = strip_bom (converted bytes) ≡ flat_map record_line (header ∷ drop 1 (file_records_of bytes))

pub lines_in-2 : (bytes : List ℕ) → header_line (file_records_of bytes) ≡ codes "ctm,2\n" → AreLinesOf bytes header_2
unfolding strip_bom converted
lines_in-2 bytes is = rw is refl

pub lines_in-3 : (bytes : List ℕ) → header_line (file_records_of bytes) ≡ codes "ctm,3\n" → AreLinesOf bytes header_3
unfolding strip_bom converted
lines_in-3 bytes is = rw is refl

pub header_2-plain : IsPlainRecord header_2
header_2-plain = record { some = omega arith; each = (record { some = omega arith; bytes = refl }, (record { some = omega arith; bytes = refl }, tt)) }

pub header_3-plain : IsPlainRecord header_3
header_3-plain = record { some = omega arith; each = (record { some = omega arith; bytes = refl }, (record { some = omega arith; bytes = refl }, tt)) }

-- the records of a converted file
pub file_records_of-converted : (bytes : List ℕ) (header : List (List ℕ)) → IsPlainRecord header → AreLinesOf bytes header → ArePlainRecords (drop 1 (file_records_of bytes)) →
    file_records_of (converted bytes) ≡ header ∷ drop 1 (file_records_of bytes)
file_records_of-converted bytes header headed lines plain =
    let rows = header ∷ drop 1 (file_records_of bytes) in
    let text = flat_map record_line rows in
    rw lines (lines-read (length text + 1) rows (omega (arith, length-lines rows)) (headed, plain))
