-- The network that any bytes are is sound.
use Rattle.std.proofs.Common.{ℕ, ◌≡◌, ◌+◌, ◌==◌, ◌&&◌, Bool, true, false, List, [], ◌∷◌, Ok, Some, None, arith, leb-true, length, ltb-true, subst, sym, ◌∙◌}
use Rattle.std.specs.Prelude.{bytes_eq, codes, if◌then◌else◌, nat_le, nat_lt, ok_or}
use Rattle.fixed_flow.specs.Limits.{most_parts}
use Rattle.record_fields.specs.Fields.{field}
use Rattle.record_fields.specs.FileRecords.{file_records_of}
use Rattle.record_fields.specs.declared.code.Code.TheVariants.{NoCells, NoHeader, NoSteps, TooMuch}
use Rattle.record_fields.proofs.CheckLemmas.{bind-ok, must-ok, ok_or-some}
use Rattle.network_file.specs.Draft.{Draft, empty_draft}
use Rattle.network_file.specs.Formats.{format_of}
use Rattle.network_file.specs.Network.{Network, load_of}
use Rattle.network_file.specs.Reading.{at_place, cutting_of_draft, network_in_all, network_of, read_file, read_records}
use Rattle.network_file.specs.Sound.{IsFormat, IsNetwork, IsSoundDraft}
use Rattle.network_file.proofs.ReadingLemmas.{at_place-ok, read_records-first, read_records-none}
use Rattle.network_file.proofs.SoundCutting.{draft-cutting, draft-uncut}
use Rattle.network_file.proofs.SoundDrafts.{empty_draft-sound}
use Rattle.network_file.proofs.SoundRecords.{take_record-sound}

-- a header names a format that is there
format_of-known : (header : List (List ℕ)) (format : ℕ) → format_of header ≡ Some format → IsFormat format
unfolding format_of
format_of-known header format named =
    by ((length header == 2) && bytes_eq (field header 0) (codes "ctm")) (bytes_eq (field header 1) (codes "1")) (bytes_eq (field header 1) (codes "2"))
    (bytes_eq (field header 1) (codes "3")) named
  where
    by : (headed one two three : Bool) → (if headed then (if one then Some 1 else if two then Some 2 else if three then Some 3 else None) else None) ≡ Some format
        → IsFormat format
    by false one two three named = cc named
    by true true two three named =
        let is : 1 ≡ format = cc named in
        record { first = omega (arith, is); last = omega (arith, is) }
    by true false true three named =
        let is : 2 ≡ format = cc named in
        record { first = omega (arith, is); last = omega (arith, is) }
    by true false false true named =
        let is : 3 ≡ format = cc named in
        record { first = omega (arith, is); last = omega (arith, is) }
    by true false false false named = cc named

network_in_all-sound : (draft : Draft) (net : Network) → IsSoundDraft draft → network_in_all draft ≡ Ok net → IsNetwork net
unfolding network_in_all
network_in_all-sound draft net sound made =
    let (steps, (is_steps, made1)) = bind-ok (ok_or draft.steps NoSteps) _ net made in
    let (cells, made2) = must-ok (nat_lt 0 (length draft.cells)) NoCells _ net made1 in
    let (load, made3) = must-ok (nat_le (load_of draft.cells draft.plan steps) most_parts) TooMuch _ net made2 in
    let (regions, (is_regions, made4)) = bind-ok (cutting_of_draft draft) _ net made3 in
    let same : record { format = draft.format; steps = steps; cells = draft.cells; connectors = draft.connectors; plan = draft.plan; regions = regions } ≡ net = cc made4 in
    let said : draft.steps ≡ Some steps = ok_or-some draft.steps NoSteps steps is_steps in
    subst IsNetwork same (record {
      format = sound.format;
      some_steps = sound.some_steps steps said;
      few_steps = sound.few_steps steps said;
      some_cells = omega (arith, ltb-true 0 (length draft.cells) cells);
      sound = sound.sound;
      regions = draft-cutting draft regions sound.regions is_regions;
      no_regions = λ first. draft-uncut draft regions (sound.no_regions first) is_regions;
      load = leb-true (load_of draft.cells draft.plan steps) most_parts load;
    })

read_records-sound : (place : ℕ) (draft : Draft) (net : Network) (rows : List (List (List ℕ))) → IsSoundDraft draft → read_records place draft rows ≡ Ok net → IsNetwork net
read_records-sound place draft net [] sound read =
    network_in_all-sound draft net sound (at_place-ok place (network_in_all draft) net (sym (read_records-none place draft) ∙ read))
read_records-sound place draft net (fields ∷ rest) sound read =
    let (more, (taken, read_rest)) = read_records-first place draft net fields rest read in
    read_records-sound (place + 1) more net rest (take_record-sound draft more fields sound taken) read_rest

read_file-sound : (rows : List (List (List ℕ))) (net : Network) → read_file rows ≡ Ok net → IsNetwork net
unfolding read_file
read_file-sound [] net read = cc read
read_file-sound (header ∷ rest) net read =
    let (format, (is_format, read_rest)) = bind-ok (at_place 1 (ok_or (format_of header) NoHeader)) (λ format. read_records 2 (empty_draft format) rest) net read in
    let named : format_of header ≡ Some format = ok_or-some (format_of header) NoHeader format (at_place-ok 1 (ok_or (format_of header) NoHeader) format is_format) in
    read_records-sound 2 (empty_draft format) net rest (empty_draft-sound format (format_of-known header format named)) read_rest

pub network_of-sound : (bytes : List ℕ) (net : Network) → network_of bytes ≡ Ok net → IsNetwork net
unfolding network_of
network_of-sound bytes net read = read_file-sound (file_records_of bytes) net read
