-- A converted file is the same network.
use Rattle.std.proofs.Common.{ℕ, ◌≡◌, ◌≤◌, ◌+◌, ◌==◌, ◌&&◌, Bool, true, false, List, [], ◌∷◌, Ok, Some, None, refl, sym, ap, subst, ◌∙◌, arith, drop, length}
use Rattle.std.specs.Prelude.{Option, bytes_eq, codes, if◌then◌else◌, max, nat_le, nat_lt, ok_or}
use Rattle.std.specs.Cmp.Lexicographic.{bytes_decides}
use Rattle.fixed_flow.specs.Limits.{most_parts}
use Rattle.std.proofs.lemmas.List.Elements.{All-nil}
use Rattle.converted_file.specs.Converted.{converted, header_line}
use Rattle.network_file.specs.Draft.{Draft, empty_draft}
use Rattle.record_fields.specs.Checks.{◌>>=◌}
use Rattle.record_fields.specs.Fields.{field}
use Rattle.record_fields.specs.FileRecords.{file_records_of}
use Rattle.network_file.specs.Formats.{format_of}
use Rattle.network_file.specs.Network.{Network, load_of}
use Rattle.network_file.specs.Reading.{at_place, network_in_all, network_of, read_file, read_records, cutting_of_draft}
use Rattle.converted_file.specs.SameNetwork.{SaysTheSame}
use Rattle.network_file.specs.declared.cell.Cell.{Cell}
use Rattle.record_fields.specs.declared.code.Code.TheVariants.{NoHeader, NoSteps, NoCells, TooMuch}
use Rattle.converted_file.proofs.PlainLines.{AreLinesOf, ArePlainRecords, IsPlainRecord, file_records_of-converted, header_2, header_2-plain, header_3, header_3-plain, lines_in-2, lines_in-3}
use Rattle.converted_file.proofs.PlainText.{IsPlain}
use Rattle.network_file.proofs.NetworkFacts.{few_records}
use Rattle.network_file.proofs.ReadingLemmas.{at_place-ok, network_of-headed, read_records-first, read_records-none, read_records-taken}
use Rattle.record_fields.proofs.CheckLemmas.{bind-as, bind-ok, must-as, must-ok}
use Rattle.converted_file.proofs.TakenFields.{ArePlainNames}
use Rattle.converted_file.proofs.TakenKinds.{in_format}
use Rattle.converted_file.proofs.TakenRecords.{HasAsMuch, take_record-alike}

-- the same network in another format
abbrev net_in_format : ℕ → Network → Network
net_in_format other net = record net { format = other }

cutting_of_draft-in_format : (other : ℕ) (draft : Draft) → cutting_of_draft (in_format other draft) ≡ cutting_of_draft draft
unfolding cutting_of_draft
cutting_of_draft-in_format other draft = refl

network_in_all-alike : (other : ℕ) (draft : Draft) (net : Network) → network_in_all draft ≡ Ok net →
    (network_in_all (in_format other draft) ≡ Ok (net_in_format other net)) × (net.format ≡ draft.format)
unfolding network_in_all
network_in_all-alike other draft net made =
    let (steps, (is_steps, made1)) = bind-ok (ok_or draft.steps NoSteps) _ net made in
    let (cells, made2) = must-ok (nat_lt 0 (length draft.cells)) NoCells _ net made1 in
    let (load, made3) = must-ok (nat_le (load_of draft.cells draft.plan steps) most_parts) TooMuch _ net made2 in
    let (regions, (is_regions, made4)) = bind-ok (cutting_of_draft draft) _ net made3 in
    let same : record { format = draft.format; steps = steps; cells = draft.cells; connectors = draft.connectors; plan = draft.plan; regions = regions } ≡ net = cc made4 in (
      bind-as (ok_or draft.steps NoSteps) _ steps _ is_steps
          (must-as (nat_lt 0 (length draft.cells)) NoCells _ _ cells
          (must-as (nat_le (load_of draft.cells draft.plan steps) most_parts) TooMuch _ _ load
          (bind-as (cutting_of_draft (in_format other draft)) _ regions _ (cutting_of_draft-in_format other draft ∙ is_regions)
          (ap (λ net. Ok (net_in_format other net)) same)))),
      ap (λ (net : Network). net.format) (sym same),
    )

whole-alike : (other place : ℕ) (draft : Draft) (net : Network) → at_place place (network_in_all draft) ≡ Ok net →
    (at_place place (network_in_all (in_format other draft)) ≡ Ok (net_in_format other net)) × (net.format ≡ draft.format)
whole-alike other place draft net made =
    let (alike, same) = network_in_all-alike other draft net (at_place-ok place (network_in_all draft) net made) in
    (ap (at_place place) alike, same)

-- records that are read without a fault are plain, and are read alike in a format that has as much
read_records-alike : (other place : ℕ) (draft : Draft) (net : Network) (rows : List (List (List ℕ))) → HasAsMuch draft.format other → ArePlainNames draft.cells →
    read_records place draft rows ≡ Ok net →
    ArePlainRecords rows × ((read_records place (in_format other draft) rows ≡ Ok (net_in_format other net)) × (net.format ≡ draft.format))
read_records-alike other place draft net [] has names read =
    let (alike, same) = whole-alike other place draft net (sym (read_records-none place draft) ∙ read) in
    (tt, (read_records-none place (in_format other draft) ∙ alike, same))
read_records-alike other place draft net (fields ∷ rest) has names read =
    let (more, (taken, read_rest)) = read_records-first place draft net fields rest read in
    let (plain, (alike, (new_names, own))) = take_record-alike other draft more fields has names taken in
    let (plain_rest, (alike_rest, same)) =
    read_records-alike other (place + 1) more net rest (subst (λ format. HasAsMuch format other) (sym own) has) new_names read_rest in
    ((plain, plain_rest), (read_records-taken place (in_format other draft) (in_format other more) fields rest alike ∙ alike_rest, same ∙ own))

-- a file without a fault has a header, and its later records are read without a fault
pub record IsHeaded (rows : List (List (List ℕ))) (net : Network) : Type 0 where
  pub format : ℕ
  pub header : List (List ℕ)
  pub rest : List (List (List ℕ))
  pub is : rows ≡ header ∷ rest
  pub named : format_of header ≡ Some format
  pub read : read_records 2 (empty_draft format) rest ≡ Ok net

read_file-headed : (rows : List (List (List ℕ))) (net : Network) → read_file rows ≡ Ok net → IsHeaded rows net
unfolding read_file
read_file-headed [] net read = cc read
read_file-headed (header ∷ rest) net read = by (format_of header) refl read
  where
    by : (o : Option ℕ) → format_of header ≡ o → (at_place 1 (ok_or o NoHeader) >>= (λ format. read_records 2 (empty_draft format) rest)) ≡ Ok net →
        IsHeaded (header ∷ rest) net
    by None is refused = cc refused
    by (Some format) is headed = record { format = format; header = header; rest = rest; is = refl; named = is; read = headed }

network_of-headed_rows : (bytes : List ℕ) (net : Network) → network_of bytes ≡ Ok net → IsHeaded (file_records_of bytes) net
unfolding network_of
network_of-headed_rows bytes net read = read_file-headed (file_records_of bytes) net read

-- the format that a header names, by its second field
pub record IsNamedBy (header : List (List ℕ)) (format : ℕ) : Type 0 where
  pub known : format ≤ 3
  pub third : bytes_eq (field header 1) (codes "3") ≡ true → format ≡ 3
  pub older : bytes_eq (field header 1) (codes "3") ≡ false → format ≤ 2

named-by : (header : List (List ℕ)) (format : ℕ) → format_of header ≡ Some format → IsNamedBy header format
unfolding format_of
named-by header format named =
    by ((length header == 2) && bytes_eq (field header 0) (codes "ctm")) (bytes_eq second (codes "1")) (bytes_eq second (codes "2"))
    (bytes_eq second (codes "3")) refl (apart (codes "1") refl) (apart (codes "2") refl) named
  where
    second : List ℕ
    second = field header 1

    apart : (digit : List ℕ) → bytes_eq digit (codes "3") ≡ false → bytes_eq second digit ≡ true → bytes_eq second (codes "3") ≡ false
    apart digit other is = subst (λ text. bytes_eq text (codes "3") ≡ false) (sym ((bytes_decides second digit).0 is)) other

    by : (headed one two three : Bool) → bytes_eq second (codes "3") ≡ three → (one ≡ true → bytes_eq second (codes "3") ≡ false) → (two ≡ true → bytes_eq second (codes "3") ≡ false) →
        (if headed then (if one then Some 1 else if two then Some 2 else if three then Some 3 else None) else None) ≡ Some format → IsNamedBy header format
    by false one two three is first next named = cc named
    by true true two three is first next named =
        let named_1 : 1 ≡ format = cc named in
        let other = first refl in
        record { known = omega (arith, named_1); third = λ yes. cc (yes, other); older = λ no. omega (arith, named_1) }
    by true false true three is first next named =
        let named_2 : 2 ≡ format = cc named in
        let other = next refl in
        record { known = omega (arith, named_2); third = λ yes. cc (yes, other); older = λ no. omega (arith, named_2) }
    by true false false true is first next named =
        let named_3 : 3 ≡ format = cc named in
        record { known = omega (arith, named_3); third = λ yes. sym named_3; older = λ no. cc (is, no) }
    by true false false false is first next named = cc named

format_of-header_2 : format_of header_2 ≡ Some 2
unfolding format_of
format_of-header_2 = refl

format_of-header_3 : format_of header_3 ≡ Some 3
unfolding format_of
format_of-header_3 = refl

-- what a text says of which the lines are those of a file's records, behind a header in a format that has as much
said : (bytes : List ℕ) (net : Network) (headed : IsHeaded (file_records_of bytes) net) (other : ℕ) (header : List (List ℕ)) → format_of header ≡ Some other →
    IsPlainRecord header → AreLinesOf bytes header → HasAsMuch headed.format other → max 2 headed.format ≡ other →
    network_of (converted bytes) ≡ Ok (record net { format = max 2 net.format })
said bytes net headed other header named plain_header lines has greater =
    let rest : drop 1 (file_records_of bytes) ≡ headed.rest = ap (drop 1) headed.is in
    let (plain, (alike, same)) =
    read_records-alike other 2 (empty_draft headed.format) net headed.rest has (All-nil (λ (cell : Cell). IsPlain cell.name)) headed.read in
    let plain_rest : ArePlainRecords (drop 1 (file_records_of bytes)) = subst ArePlainRecords (sym rest) plain in
    let records : file_records_of (converted bytes) ≡ header ∷ headed.rest =
    file_records_of-converted bytes header plain_header lines plain_rest ∙ ap (λ rows. header ∷ rows) rest in
    let format : other ≡ max 2 net.format = sym greater ∙ ap (max 2) (sym same) in
    network_of-headed (converted bytes) header headed.rest other records named ∙ alike ∙ ap (λ format. Ok (net_in_format format net)) format

said-by : (bytes : List ℕ) (net : Network) (headed : IsHeaded (file_records_of bytes) net) (three : Bool) → bytes_eq (field headed.header 1) (codes "3") ≡ three →
    network_of (converted bytes) ≡ Ok (record net { format = max 2 net.format })
said-by bytes net headed true is =
    let third : headed.format ≡ 3 = (named-by headed.header headed.format headed.named).third is in
    let line : header_line (file_records_of bytes) ≡ codes "ctm,3\n" =
    ap header_line headed.is ∙ ap (λ b. if b then codes "ctm,3\n" else codes "ctm,2\n") is in
    said bytes net headed 3 header_3 format_of-header_3 header_3-plain (lines_in-3 bytes line)
    (record { later = omega (arith, third); records = few_records headed.format }) (omega (arith, third))
said-by bytes net headed false is =
    let older : headed.format ≤ 2 = (named-by headed.header headed.format headed.named).older is in
    let line : header_line (file_records_of bytes) ≡ codes "ctm,2\n" =
    ap header_line headed.is ∙ ap (λ b. if b then codes "ctm,3\n" else codes "ctm,2\n") is in
    said bytes net headed 2 header_2 format_of-header_2 header_2-plain (lines_in-2 bytes line)
    (record { later = older; records = few_records headed.format }) (omega (arith, older))

-- the converted text of a file says the same
pub converted-same : (bytes : List ℕ) (net : Network) → network_of bytes ≡ Ok net → SaysTheSame bytes (converted bytes)
converted-same bytes net read =
    let headed = network_of-headed_rows bytes net read in
    (net, read, said-by bytes net headed (bytes_eq (field headed.header 1) (codes "3")) refl)
