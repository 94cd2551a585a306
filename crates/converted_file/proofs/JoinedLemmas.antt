-- Fields with commas between them, by one field more.
use Rattle.std.proofs.Common.{ℕ, ◌≡◌, ◌<◌, ◌≤◌, ◌+◌, zero, suc, List, [], ◌∷◌, ◌++◌, refl, ap, ◌∙◌, sym, length, get_or, take, drop, append_assoc, arith, add-one}
use Rattle.std.specs.Prelude.{codes}
use Rattle.std.proofs.lemmas.List.{append-nil}
use Rattle.std.specs.List.{flat_map}
use Rattle.converted_file.specs.Converted.{converted, header_line, joined, record_line}
use Rattle.record_fields.specs.FileRecords.{file_records_of}

-- the first field
pub joined-first : (fields : List (List ℕ)) → 0 < length fields → joined (take 1 fields) ≡ get_or fields 0 []
joined-first [] some = absurd (omega arith)
joined-first (field ∷ rest) some = refl

-- a later field, behind a comma
pub joined-more : (fields : List (List ℕ)) (i : ℕ) → suc i < length fields → joined (take (suc (suc i)) fields) ≡ joined (take (suc i) fields) ++ (codes "," ++ get_or fields (suc i) [])
joined-more [] i there = absurd (omega arith)
joined-more (field ∷ []) i there = absurd (omega arith)
joined-more (field ∷ next ∷ rest) zero there = refl
joined-more (field ∷ next ∷ rest) (suc i) there =
    ap (λ (t : List ℕ). field ++ (44 ∷ t)) (joined-more (next ∷ rest) i (omega arith))
    ∙ sym (append_assoc field (44 ∷ joined (take (suc i) (next ∷ rest))) (44 ∷ get_or (next ∷ rest) (suc i) []))

-- a text with fields so far, and then the first
pub line-first : (text before : List ℕ) (fields : List (List ℕ)) (i : ℕ) → i ≤ 0 → i < length fields → before ≡ text ++ joined (take i fields)
    → before ++ get_or fields i [] ≡ text ++ joined (take (i + 1) fields)
line-first text before fields zero first there so_far = rw (so_far, append-nil text, joined-first fields there) refl
line-first text before fields (suc i) first there so_far = absurd (omega arith)

-- a text with fields so far, and then a later one behind a comma
pub line-more : (text before after : List ℕ) (fields : List (List ℕ)) (i : ℕ) → 0 < i → i < length fields → before ≡ text ++ joined (take i fields)
    → after ≡ before ++ 44 ∷ [] → after ++ get_or fields i [] ≡ text ++ joined (take (i + 1) fields)
line-more text before after fields zero later there so_far comma = absurd (omega arith)
line-more text before after fields (suc i) later there so_far comma =
    rw (comma, so_far, add-one, joined-more fields i there, append_assoc (text ++ joined (take (suc i) fields)) (44 ∷ []) (get_or fields (suc i) []))
    (append_assoc text (joined (take (suc i) fields)) (44 ∷ get_or fields (suc i) []))

-- a converted file, by the file's records
pub converted-by : (bytes : List ℕ) (records : List (List (List ℕ))) → records ≡ file_records_of bytes
    → converted bytes ≡ header_line records ++ flat_map record_line (drop 1 records)
unfolding converted
converted-by bytes records same = rw same refl
