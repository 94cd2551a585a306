-- A record that is taken has plain fields, and is taken alike in any format that has as much.
use Rattle.std.proofs.Common.{ℕ, zero, suc, ◌≡◌, ◌==◌, ◌<◌, ◌≤◌, true, Some, List, [], ◌∷◌, Ok, refl, sym, subst, ap, ◌∙◌, arith, length}
use Rattle.std.specs.Prelude.{nat_lt, ok_or}
use Rattle.std.proofs.lemmas.Bool.{eqb-true, lt-ltb, ltb-true}
use Rattle.network_file.specs.Draft.{Draft}
use Rattle.record_fields.specs.Fields.{field}
use Rattle.network_file.specs.Formats.{most_records}
use Rattle.record_fields.specs.RecordKinds.{field_count, record_kind_of}
use Rattle.network_file.specs.Taking.{take_kind, take_record, taken_before}
use Rattle.record_fields.specs.declared.code.Code.TheVariants.{BadKind, BadCount, TooMany}
use Rattle.record_fields.specs.declared.record_kind.RecordKind.{RecordKind}
use Rattle.record_fields.specs.declared.record_kind.RecordKind.TheVariants.{Steps, Road, Gate, Exit, Link, Merge, Diverge, Signal, Limit, Demand, Turn, Region, Speed}
use Rattle.record_fields.proofs.KindWords.{record_kind_of-later, record_kind_of-word, word_of}
use Rattle.converted_file.proofs.PlainWords.{word_of-plain}
use Rattle.converted_file.proofs.PlainLines.{ArePlain, IsPlainRecord}
use Rattle.converted_file.proofs.PlainText.{IsPlain}
use Rattle.record_fields.proofs.CheckLemmas.{bind-as, bind-ok, must-as, must-ok, ok_or-some}
use Rattle.converted_file.proofs.TakenFields.{ArePlainNames}
use Rattle.converted_file.proofs.TakenKinds.{IsTakenAlike, fields_from, StaysPlain, in_format, take_demand-alike, take_diverge-alike, take_exit-alike, take_gate-alike, take_limit-alike, take_link-alike, take_merge-alike, take_region-alike, take_road-alike, take_signal-alike, take_speed-alike, take_steps-alike, take_turn-alike}

-- how many fields stand behind the kind
abbrev later_count : RecordKind → ℕ
later_count Steps = 1
later_count Road = 6
later_count Gate = 3
later_count Exit = 2
later_count Link = 2
later_count Merge = 5
later_count Diverge = 5
later_count Signal = 5
later_count Limit = 4
later_count Demand = 4
later_count Turn = 5
later_count Region = 2
later_count Speed = 5

field_count-later : (kind : RecordKind) → field_count kind ≡ suc (later_count kind)
field_count-later Steps = refl
field_count-later Road = refl
field_count-later Gate = refl
field_count-later Exit = refl
field_count-later Link = refl
field_count-later Merge = refl
field_count-later Diverge = refl
field_count-later Signal = refl
field_count-later Limit = refl
field_count-later Demand = refl
field_count-later Turn = refl
field_count-later Region = refl
field_count-later Speed = refl

take_kind-alike : (kind : RecordKind) (other : ℕ) (draft more : Draft) (fields : List (List ℕ)) → ArePlainNames draft.cells → take_kind kind draft fields ≡ Ok more
    → IsTakenAlike other (take_kind kind) (later_count kind) draft fields more
take_kind-alike Steps = take_steps-alike
take_kind-alike Road = take_road-alike
take_kind-alike Gate = take_gate-alike
take_kind-alike Exit = take_exit-alike
take_kind-alike Link = take_link-alike
take_kind-alike Merge = take_merge-alike
take_kind-alike Diverge = take_diverge-alike
take_kind-alike Signal = take_signal-alike
take_kind-alike Limit = take_limit-alike
take_kind-alike Demand = take_demand-alike
take_kind-alike Turn = take_turn-alike
take_kind-alike Region = take_region-alike
take_kind-alike Speed = take_speed-alike

-- the counts that a format limits are those of the draft in another format
taken_before-in_format : (kind : RecordKind) (other : ℕ) (draft : Draft) → taken_before kind (in_format other draft) ≡ taken_before kind draft
taken_before-in_format Steps other draft = refl
taken_before-in_format Road other draft = refl
taken_before-in_format Gate other draft = refl
taken_before-in_format Exit other draft = refl
taken_before-in_format Link other draft = refl
taken_before-in_format Merge other draft = refl
taken_before-in_format Diverge other draft = refl
taken_before-in_format Signal other draft = refl
taken_before-in_format Limit other draft = refl
taken_before-in_format Demand other draft = refl
taken_before-in_format Turn other draft = refl
taken_before-in_format Region other draft = refl
taken_before-in_format Speed other draft = refl

-- another format has all kinds of record that a format has, and as many records of each
pub record HasAsMuch (format other : ℕ) : Type 0 where
  pub later : format ≤ other
  pub records : most_records format ≤ most_records other

room-in_format : (taken format other : ℕ) → HasAsMuch format other → nat_lt taken (most_records format) ≡ true → nat_lt taken (most_records other) ≡ true
room-in_format taken format other has room =
    let less : taken < most_records format = ltb-true taken (most_records format) room in
    lt-ltb taken (most_records other) (omega (arith, less, has.records))

fields_from-tail : (first : List ℕ) (rest : List (List ℕ)) (place count : ℕ) → fields_from (first ∷ rest) (suc place) count ≡ fields_from rest place count
fields_from-tail first rest place zero = refl
fields_from-tail first rest place (suc count) = ap (λ (fields : List (List ℕ)). field rest place ∷ fields) (fields_from-tail first rest (suc place) count)

fields_from-all : (fields : List (List ℕ)) → fields_from fields 0 (length fields) ≡ fields
fields_from-all [] = refl
fields_from-all (first ∷ rest) = ap (λ (fields : List (List ℕ)). first ∷ fields) (fields_from-tail first rest 0 (length rest) ∙ fields_from-all rest)

-- a record whose first field is plain, and so are those behind it
plain-by_places : (fields : List (List ℕ)) (later : ℕ) → length fields ≡ suc later → IsPlain (field fields 0) → ArePlain (fields_from fields 1 later) → IsPlainRecord fields
plain-by_places fields later count first rest =
    let all : fields_from fields 0 (suc later) ≡ fields = ap (fields_from fields 0) (sym count) ∙ fields_from-all fields in
    let each : ArePlain (fields_from fields 0 (suc later)) = (first, rest) in
    record { some = omega (arith, count); each = subst ArePlain all each }

-- what is known of a record that is taken
abbrev pub IsRecordTakenAlike : (other : ℕ) → Draft → List (List ℕ) → Draft → Type 0
IsRecordTakenAlike other draft fields more =
    IsPlainRecord fields × ((take_record (in_format other draft) fields ≡ Ok (in_format other more)) × StaysPlain draft.format more)

pub take_record-alike : (other : ℕ) (draft more : Draft) (fields : List (List ℕ)) → HasAsMuch draft.format other → ArePlainNames draft.cells →
    take_record draft fields ≡ Ok more → IsRecordTakenAlike other draft fields more
unfolding take_record
take_record-alike other draft more fields has names taken =
    let (kind, (is_kind, taken1)) = bind-ok (ok_or (record_kind_of draft.format (field fields 0)) BadKind) _ more taken in
    let (counted, taken2) = must-ok (length fields == field_count kind) BadCount _ more taken1 in
    let (room, taken3) = must-ok (nat_lt (taken_before kind draft) (most_records draft.format)) TooMany _ more taken2 in
    let (plain, (alike, new_names)) = take_kind-alike kind other draft more fields names taken3 in
    let is : record_kind_of draft.format (field fields 0) ≡ Some kind = ok_or-some (record_kind_of draft.format (field fields 0)) BadKind kind is_kind in
    let named : field fields 0 ≡ word_of kind = record_kind_of-word draft.format (field fields 0) kind is in
    let count : length fields ≡ suc (later_count kind) = eqb-true (length fields) (field_count kind) counted ∙ field_count-later kind in
    let kind_too : ok_or (record_kind_of other (field fields 0)) BadKind ≡ Ok kind =
    ap (λ o. ok_or o BadKind) (record_kind_of-later draft.format other (field fields 0) kind has.later is) in
    let room_too : nat_lt (taken_before kind (in_format other draft)) (most_records other) ≡ true =
    ap (λ n. nat_lt n (most_records other)) (taken_before-in_format kind other draft) ∙ room-in_format (taken_before kind draft) draft.format other has room in (
      plain-by_places fields (later_count kind) count (subst IsPlain (sym named) (word_of-plain kind)) plain,
      (
        bind-as (ok_or (record_kind_of other (field fields 0)) BadKind) _ kind _ kind_too
            (must-as (length fields == field_count kind) BadCount _ _ counted
            (must-as (nat_lt (taken_before kind (in_format other draft)) (most_records other)) TooMany _ _ room_too alike)),
        new_names,
      ),
    )
