-- A read takes at least a byte of the file, so the records left are those of the bytes left.
use Rattle.std.proofs.Common.{ℕ, zero, suc, ◌≡◌, ◌<◌, ◌≤◌, ◌+◌, Bool, true, false, List, [], ◌∷◌, ◌++◌, Option, Some, None, ◌∙◌, ap, refl, length, arith, Bor, add-one, inl, cond}
use Rattle.std.proofs.lemmas.Bool.Decides.{nat_tests}
use Rattle.csv.specs.Machine.{Read, ends_at_end, is_end, next_record, step, fields_after, field_after}
use Rattle.csv.specs.Reading.{is_bom, strip_bom, stops_reader, ExplainsRead, Reached, ReadRecord, is_flexible, records_from, records_next, took_first}
use Rattle.csv.specs.declared.error.ErrorKind.{ErrorKind}
use Rattle.csv.specs.declared.error.ErrorKind.TheVariants as kind
use Rattle.csv.specs.declared.reader.Reader.{Reader}
use Rattle.csv.proofs.ReadFacts.{rows-end, rows-more}
use Rattle.csv.specs.declared.parser.State.{State}
use Rattle.csv.specs.declared.parser.State.TheVariants as st
use Rattle.record_fields.specs.FileRecords.{config, file_records_of}
use Rattle.record_fields.specs.FileReading.{IsReading, bytes_of, records_left}

-- a byte that ends a record leaves no record open
closed : (s : State) (c : ℕ) → is_end (step config s c).1 ≡ true → ends_at_end (step config s c).0 ≡ false
closed st.StartRecord c h = grind (arith, nat_tests)
closed st.StartField c h = grind (arith, nat_tests)
closed st.InField c h = grind (arith, nat_tests)
closed st.InQuoted c h = grind (arith, nat_tests)
closed st.InEscape c h = grind (arith, nat_tests)
closed st.AfterQuote c h = grind (arith, nat_tests)
closed st.InComment c h = grind (arith, nat_tests)
closed st.AfterCr c h = grind (arith, nat_tests)

-- after a read of `before` bytes `after` are left, and no record is open
abbrev Leaves : State → (before after : ℕ) → Type 0
Leaves s before after = (after ≤ before) × (ends_at_end s ≡ false) × (0 < before → after < before)

leaves : (s s2 : State) (fields r : List (List ℕ)) (field xs ys : List ℕ)
    → next_record config s fields field xs ≡ Some (r, s2, ys) → Leaves s2 (length xs) (length ys)
unfolding next_record
leaves s s2 fields r field [] ys h = by (ends_at_end s) refl h
  where
    by : (b : Bool) → ends_at_end s ≡ b → next_record config s fields field [] ≡ Some (r, s2, ys) → Leaves s2 0 (length ys)
    by true e q =
        let same : ◌≡◌ {A = Read} (fields ++ (field ∷ []), st.StartRecord, []) (r, s2, ys) = cc (rw e at q) in
        let state : st.StartRecord ≡ s2 = ap (λ (p : Read). p.1) same in
        let left : [] ≡ ys = ap (λ (p : Read). p.2) same in
        rw (← left, ← state) (omega arith, refl, λ n. omega arith)
    by false e q = cc (rw e at q)
leaves s s2 fields r field (c ∷ xs) ys h = by (is_end (step config s c).1) refl h (leaves (step config s c).0 s2 _ r _ xs ys)
  where
    by : (b : Bool) → is_end (step config s c).1 ≡ b → next_record config s fields field (c ∷ xs) ≡ Some (r, s2, ys)
        → (next_record config (step config s c).0 (fields_after (step config s c).1 fields field) (field_after (step config s c).1 c field) xs ≡ Some (r, s2, ys) → Leaves s2 (length xs) (length ys))
        → Leaves s2 (length (c ∷ xs)) (length ys)
    by true e q more =
        let same : ◌≡◌ {A = Read} (fields_after (step config s c).1 fields field, (step config s c).0, xs) (r, s2, ys) = cc (rw e at q) in
        let state : (step config s c).0 ≡ s2 = ap (λ (p : Read). p.1) same in
        let left : xs ≡ ys = ap (λ (p : Read). p.2) same in
        rw (← left, ← state) (omega arith, closed s c e, λ n. omega arith)
    by false e q more =
        let (fewer, shut, m) = more (rw e at q) in
        (omega (arith, fewer), shut, λ n. omega (arith, fewer))

-- between two records a text without bytes has no record
none_left : (s : State) → ends_at_end s ≡ false → next_record config s [] [] [] ≡ None
unfolding next_record
none_left s shut = rw shut refl

-- between two records, a read takes a byte
next_record-shorter : (s s2 : State) (r : List (List ℕ)) (xs ys : List ℕ) → ends_at_end s ≡ false
    → next_record config s [] [] xs ≡ Some (r, s2, ys) → length ys < length xs
next_record-shorter s s2 r [] ys shut h = cc (none_left s shut)
next_record-shorter s s2 r (c ∷ xs) ys shut h = (leaves s s2 [] r [] (c ∷ xs) ys h).2 (omega arith)

-- more turns than bytes find no more records
enough : (n m : ℕ) (s : State) (xs : List ℕ) → ends_at_end s ≡ false → length xs < n → length xs < m
    → records_from config n s xs ≡ records_from config m s xs
unfolding records_from
enough zero m s xs shut a b = absurd (omega arith)
enough (suc n) zero s xs shut a b = absurd (omega arith)
enough (suc n) (suc m) s xs shut a b = by (next_record config s [] [] xs) refl (enough n m)
  where
    by : (o : Option Read) → next_record config s [] [] xs ≡ o
        → ((s2 : State) (ys : List ℕ) → ends_at_end s2 ≡ false → length ys < n → length ys < m → records_from config n s2 ys ≡ records_from config m s2 ys)
        → records_next (records_from config n) o ≡ records_next (records_from config m) o
    by None e more = refl
    by (Some p) e more =
        let fewer = next_record-shorter s p.1 p.0 xs p.2 shut e in
        ap (λ rest. p.0 ∷ rest) (more p.1 p.2 (leaves s p.1 [] p.0 [] xs p.2 e).1 (omega arith) (omega arith))

-- the records of bytes from which one was read
pub records_from-next : (s s2 : State) (r : List (List ℕ)) (xs ys : List ℕ) → ends_at_end s ≡ false → next_record config s [] [] xs ≡ Some (r, s2, ys)
    → (records_from config (length xs + 1) s xs ≡ r ∷ records_from config (length ys + 1) s2 ys) × (ends_at_end s2 ≡ false)
unfolding records_from
records_from-next s s2 r xs ys shut h =
    let fewer = next_record-shorter s s2 r xs ys shut h in
    let closed_after = (leaves s s2 [] r [] xs ys h).1 in
    (rw (add-one, h) (ap (λ rest. r ∷ rest) (enough (length xs) (length ys + 1) s2 ys closed_after fewer (omega arith))), closed_after)

-- the records of bytes in which there is none
pub records_from-end : (s : State) (xs : List ℕ) → next_record config s [] [] xs ≡ None → records_from config (length xs + 1) s xs ≡ []
unfolding records_from
records_from-end s xs h = rw (add-one, h) refl

read-is : (p : Read) (r : List (List ℕ)) (s : State) (ys : List ℕ) → r ≡ p.0 → p.1 ≡ s → p.2 ≡ ys → ◌≡◌ {A = Option Read} (Some p) (Some (r, s, ys))
read-is p r s ys a b c = rw (a, ← b, ← c) refl

-- a read that found a record, by the records that are left
pub records_left-next : (a b : Reader (Bor (List ℕ))) (r : List (List ℕ))
    → IsReading a → ReadRecord bytes_of a b true r → took_first b ≡ true → is_flexible b ≡ is_flexible a
    → (records_left a ≡ r ∷ records_left b) × IsReading b
unfolding Reached records_left
records_left-next a b r reading read first kept =
    let (y, known) = reading.known in
    let (z, after, (p, is, row, (state, rest))) = rows-more bytes_of a b r config a.state y y [] reading.format known (refl, refl) read in
    let found : next_record config a.state [] [] y ≡ Some (r, b.state, z) = is ∙ read-is p r b.state z row state rest in
    let (left, between) = records_from-next a.state b.state r y z reading.between found in (
      rw (known, after) left,
      record {
        plain = read.3 ∙ reading.plain;
        flexible = kept ∙ reading.flexible;
        ready = inl first;
        format = read.2 ∙ reading.format;
        known = (z, after);
        between = between;
      },
    )

-- a read that found none
pub records_left-end : (a b : Reader (Bor (List ℕ))) (r : List (List ℕ))
    → IsReading a → ReadRecord bytes_of a b false r → records_left a ≡ []
unfolding records_left
records_left-end a b r reading read =
    let (y, known) = reading.known in
    rw known (records_from-end a.state y (rows-end bytes_of a b r config y reading.format known read))

-- a reader of records of any length fails for the reader underneath or out of memory
pub stops_reader-flexible : (a b : Reader (Bor (List ℕ))) (k : ErrorKind) → is_flexible a ≡ true → ExplainsRead bytes_of a b false k
    → stops_reader k ≡ true
stops_reader-flexible a b (kind.Io e) flexible why = refl
stops_reader-flexible a b kind.OutOfMemory flexible why = refl
stops_reader-flexible a b (kind.UnequalLengths pos expected len) flexible why = cc (why.0, flexible)
stops_reader-flexible a b (kind.Utf8 pos err) flexible why = cc why.0
stops_reader-flexible a b (kind.Serialize text) flexible why = absurd why
stops_reader-flexible a b (kind.Deserialize pos err) flexible why = absurd why

length-records_from : (n : ℕ) (s : State) (xs : List ℕ) → length (records_from config n s xs) ≤ n
unfolding records_from
length-records_from zero s xs = omega arith
length-records_from (suc n) s xs = by (next_record config s [] [] xs) (length-records_from n)
  where
    by : (o : Option Read) → ((s2 : State) (ys : List ℕ) → length (records_from config n s2 ys) ≤ n) → length (records_next (records_from config n) o) ≤ suc n
    by None few = omega arith
    by (Some p) few = omega (arith, few p.1 p.2)

length-strip_bom : (xs : List ℕ) → length (strip_bom xs) ≤ length xs
unfolding strip_bom
length-strip_bom [] = omega arith
length-strip_bom (a ∷ []) = omega arith
length-strip_bom (a ∷ b ∷ []) = omega arith
length-strip_bom (a ∷ b ∷ c ∷ rest) = by (is_bom a b c)
  where
    by : (m : Bool) → length (cond m rest (a ∷ b ∷ c ∷ rest)) ≤ length (a ∷ b ∷ c ∷ rest)
    by true = omega arith
    by false = omega arith

-- a file has at most one record more than bytes
pub length-file_records_of : (bytes : List ℕ) → length (file_records_of bytes) ≤ length bytes + 1
length-file_records_of bytes = omega (arith, length-records_from (length (strip_bom bytes) + 1) st.StartRecord (strip_bom bytes), length-strip_bom bytes)
