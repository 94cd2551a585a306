-- The definition of a file's network, by its header and by one record more.
use Rattle.std.proofs.Common.{ℕ, ◌≡◌, ◌+◌, Some, None, List, [], ◌∷◌, Ok, Err, ap, ◌∙◌, refl}
use Rattle.std.specs.Prelude.{Result}
use Rattle.no_memory.specs.Answers.{Answers, IsRefusal}
use Rattle.network_file.specs.Draft.{Draft, empty_draft}
use Rattle.network_file.specs.Formats.{format_of}
use Rattle.record_fields.specs.FileRecords.{file_records_of}
use Rattle.network_file.specs.Network.{Network}
use Rattle.network_file.specs.Reading.{at_place, network_in_all, network_of, read_file, read_records}
use Rattle.network_file.specs.Faults.{fault_at}
use Rattle.network_file.specs.Refusals.{refusal_at}
use Rattle.network_file.specs.Taking.{take_record}
use Rattle.record_fields.specs.declared.code.Code.{Code}
use Rattle.record_fields.proofs.CheckLemmas.{bind-ok}
use Rattle.record_fields.specs.declared.code.Code.TheVariants.{NoHeader}
use Rattle.network_file.specs.declared.fault.NetFault.{NetFault}
use Rattle.no_memory.specs.declared.refused.Refused.{Refused}
use Rattle.no_memory.specs.declared.refused.Refused.TheVariants.{Fault, NoMemory}

pub network_of-headless : (bytes : List ℕ) → file_records_of bytes ≡ [] → network_of bytes ≡ Err (fault_at 1 NoHeader)
unfolding network_of read_file
network_of-headless bytes none = rw none refl

pub network_of-misheaded : (bytes : List ℕ) (header : List (List ℕ)) (rest : List (List (List ℕ))) → file_records_of bytes ≡ header ∷ rest
    → format_of header ≡ None → network_of bytes ≡ Err (fault_at 1 NoHeader)
unfolding network_of read_file
network_of-misheaded bytes header rest all no_format = rw (all, no_format) refl

pub network_of-headed : (bytes : List ℕ) (header : List (List ℕ)) (rest : List (List (List ℕ))) (format : ℕ) → file_records_of bytes ≡ header ∷ rest
    → format_of header ≡ Some format → network_of bytes ≡ read_records 2 (empty_draft format) rest
unfolding network_of read_file
network_of-headed bytes header rest format all headed = rw (all, headed) refl

pub read_records-none : (place : ℕ) (draft : Draft) → read_records place draft [] ≡ at_place place (network_in_all draft)
unfolding read_records
read_records-none place draft = refl

-- a place is added to a fault alone
pub at_place-ok : {A : Type 0} (place : ℕ) (m : Result A Code) (a : A) → at_place place m ≡ Ok a → m ≡ Ok a
at_place-ok place (Ok a) b made = ap Ok (cc made)
at_place-ok place (Err code) b made = cc made

-- a record that was taken, and what follows it
pub read_records-first : (place : ℕ) (draft : Draft) (net : Network) (fields : List (List ℕ)) (rest : List (List (List ℕ))) → read_records place draft (fields ∷ rest) ≡ Ok net
    → (more : Draft) × ((take_record draft fields ≡ Ok more) × (read_records (place + 1) more rest ≡ Ok net))
unfolding read_records
read_records-first place draft net fields rest read =
    let (more, (taken, read_rest)) = bind-ok (at_place place (take_record draft fields)) (λ more. read_records (place + 1) more rest) net read in
    (more, (at_place-ok place (take_record draft fields) more taken, read_rest))

pub read_records-taken : (place : ℕ) (draft more : Draft) (fields : List (List ℕ)) (rest : List (List (List ℕ))) → take_record draft fields ≡ Ok more
    → read_records place draft (fields ∷ rest) ≡ read_records (place + 1) more rest
unfolding read_records
read_records-taken place draft more fields rest taken = rw taken refl

-- a record that is refused is the answer, unless memory was refused
pub read_records-refused : (place : ℕ) (draft : Draft) (fields : List (List ℕ)) (rest : List (List (List ℕ))) (refusal : Refused Code) (whole : Result Network NetFault)
    → whole ≡ read_records place draft (fields ∷ rest) → Answers {A = Draft} (Err refusal) (take_record draft fields) → IsRefusal (refusal_at place refusal) whole
unfolding read_records
read_records-refused place draft fields rest (Fault code) whole same refused = same ∙ rw refused refl
read_records-refused place draft fields rest NoMemory whole same refused = tt

-- the network of a draft, or its refusal, where all records are taken
pub network_in_all-made : (place : ℕ) (draft : Draft) (net : Network) → network_in_all draft ≡ Ok net → at_place place (network_in_all draft) ≡ Ok net
network_in_all-made place draft net whole = rw whole refl

pub network_in_all-refused : (place : ℕ) (draft : Draft) (refusal : Refused Code) → Answers {A = Network} (Err refusal) (network_in_all draft)
    → IsRefusal (refusal_at place refusal) (at_place place (network_in_all draft))
network_in_all-refused place draft (Fault code) refused = rw refused refl
network_in_all-refused place draft NoMemory refused = tt
