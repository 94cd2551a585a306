-- The candidates of an input, read one after the other.
use Rattle.std.specs.Prelude.{Ok, Err, IfErr, IfOk, None, Some, drop, map, slice_index_or, take}
use Rattle.std.proofs.Common.{◌≡◌, ◌⊎◌, ℕ, suc, ◌+◌, ◌<◌, ◌≤◌, inl, inr, List, [], ◌∷◌, ◌++◌, Option, Result, length, ap, arith, refl, subst, sym, ◌∙◌}
use Rattle.std.proofs.lemmas.Bool.{le-leb, lt-leb}
use Rattle.std.proofs.lemmas.List.{drop_all, drop_more, map_push, take_all, take_more}
use Rattle.network_file.specs.Network.{Network}
use Rattle.network_file.specs.Reading.{network_of}
use Rattle.no_memory.specs.Answers.{IsRefusal}
use Rattle.no_memory.specs.declared.refused.Refused.{Refused}
use Rattle.no_memory.specs.declared.refused.Refused.TheVariants.{Fault, NoMemory}
use Rattle.network_file.specs.declared.fault.NetFault.{NetFault}
use Rattle.plan_choice.specs.Pieces.{candidates_in}
use Rattle.plan_choice.proofs.Sizes.{file-few}
use Rattle.call_ending.specs.Refusing.{IsRefusalOf}
use Rattle.call_ending.specs.Why.{Why}
use Rattle.call_ending.specs.declared.refusal.Refusal.{Refusal}
use Rattle.call_beginning.specs.Refused.{IsToldOf}
use Rattle.workerless_modes.specs.ChooseMode.{IsChooseText, IsChosenOf, candidate_refused, choose_refused, plans_refused, why_of_candidate, why_of_candidates}

-- nothing stands against the first candidates, which were read as these networks
pub record AreRead (files : List (List ℕ)) (p : ℕ) (nets : List Network) : Type 0 where
  pub networks : map network_of (take p files) ≡ map Ok nets
  pub left : why_of_candidates 0 files ≡ why_of_candidates p (drop p files)

pub none-read : (files : List (List ℕ)) → AreRead files 0 []
none-read files = record { networks = refl; left = refl }

-- what stands against the rest, by the first of it
why-here : (files : List (List ℕ)) (p : ℕ) → p < length files →
    why_of_candidates p (drop p files) ≡ why_of_candidate p (network_of (slice_index_or files p [])) (why_of_candidates (p + 1) (drop (p + 1) files))
why-here files p there = ap (why_of_candidates p) (drop_more files p [] there)

-- one more
pub more-read : (files : List (List ℕ)) (p : ℕ) (nets : List Network) (net : Network) → p < length files → AreRead files p nets →
    network_of (slice_index_or files p []) ≡ Ok net → AreRead files (p + 1) (nets ++ net ∷ [])
more-read files p nets net there are is = record {
  networks = ap (map network_of) (take_more files p [] there) ∙ map_push network_of (take p files) (slice_index_or files p []) ∙
      ap (λ front. front ++ network_of (slice_index_or files p []) ∷ []) are.networks ∙ ap (λ last. map Ok nets ++ last ∷ []) is ∙ sym (map_push Ok nets net);
  left = are.left ∙ why-here files p there ∙ ap (λ read. why_of_candidate p read (why_of_candidates (p + 1) (drop (p + 1) files))) is;
}

-- one with a fault
pub fault-read : (files : List (List ℕ)) (p : ℕ) (nets : List Network) → p < length files → AreRead files p nets →
    why_of_candidates 0 files ≡ why_of_candidate p (network_of (slice_index_or files p [])) (why_of_candidates (p + 1) (drop (p + 1) files))
fault-read files p nets there are = are.left ∙ why-here files p there

-- all of them
pub all-networks : (files : List (List ℕ)) (p : ℕ) (nets : List Network) → length files ≤ p → AreRead files p nets → map network_of files ≡ map Ok nets
all-networks files p nets past are = ap (map network_of) (sym (take_all p files past)) ∙ are.networks

pub all-accepted : (files : List (List ℕ)) (p : ℕ) (nets : List Network) → length files ≤ p → AreRead files p nets → why_of_candidates 0 files ≡ None
all-accepted files p nets past are = are.left ∙ ap (why_of_candidates p) (drop_all p files past)

-- an input by the number of its plans
pub refused-candidates : (input : List ℕ) → 1 ≤ length (candidates_in input) → length (candidates_in input) ≤ 16 → choose_refused input ≡ why_of_candidates 0 (candidates_in input)
refused-candidates input some few = rw (le-leb 1 (length (candidates_in input)) some, le-leb (length (candidates_in input)) 16 few) refl

pub refused-plans : (input : List ℕ) → (length (candidates_in input) ≡ 0) ⊎ (16 < length (candidates_in input)) → choose_refused input ≡ Some (plans_refused (length (candidates_in input)))
refused-plans input miscounted = elim miscounted [
  | inl none ↦ rw (lt-leb 1 (length (candidates_in input)) (omega (arith, none))) refl
  | inr many ↦ rw (le-leb 1 (length (candidates_in input)) (omega (arith, many)), lt-leb (length (candidates_in input)) 16 many) refl
]

-- as many networks as candidates
pub length-read : (files : List (List ℕ)) (nets : List Network) → map network_of files ≡ map Ok nets → length nets ≡ length files
length-read [] [] are = refl
length-read [] (net ∷ nets) are = absurd cc
length-read (file ∷ files) [] are = absurd cc
length-read (file ∷ files) (net ∷ nets) are = ap suc (length-read files nets cc)

-- the refusal of a candidate tells its fault
pub told-candidate : (p : ℕ) (read : Result Network NetFault) (refusal : Refused NetFault) (told : Refusal) (later : Option Why) → IsRefusal refusal read → IsToldOf (candidate_refused p) refusal told →
    IsRefusalOf (why_of_candidate p read later) ⊥ told
told-candidate p read (Fault fault) told later is is_told = rw is is_told
told-candidate p read NoMemory told later is is_told = rw is_told tt

module _ (input : List ℕ) (files : List (List ℕ)) (same : files ≡ candidates_in input) where
  -- of an input that was cut so no candidate is longer than the input
  pub files-few : (p : ℕ) → length (slice_index_or files p []) ≤ length input
  files-few p = subst (λ files. length (slice_index_or files p []) ≤ length input) (sym same) (file-few input p)

  -- and what stands against it is what stands against its candidates
  why-cut : 1 ≤ length files → length files ≤ 16 → choose_refused input ≡ why_of_candidates 0 files
  why-cut some few =
      refused-candidates input (subst (λ files. 1 ≤ length files) same some) (subst (λ files. length files ≤ 16) same few) ∙ ap (why_of_candidates 0) (sym same)

  pub cut-text : {A : Type 0} (items : A → List ℕ) (result : Result A Refusal) → 1 ≤ length files → length files ≤ 16 →
      IfOk result (λ text. (why_of_candidates 0 files ≡ None) × IsChosenOf files (items text)) →
      IfOk result (λ text. (choose_refused input ≡ None) × IsChooseText input (items text))
  cut-text items (Ok text) some few given = (why-cut some few ∙ given.0, subst (λ files. IsChosenOf files (items text)) same given.1)
  cut-text items (Err told) some few given = tt

  pub cut-refusal : {A : Type 0} (result : Result A Refusal) → 1 ≤ length files → length files ≤ 16 →
      IfErr result (IsRefusalOf (why_of_candidates 0 files) ⊥) → IfErr result (IsRefusalOf (choose_refused input) ⊥)
  cut-refusal (Ok text) some few given = tt
  cut-refusal (Err told) some few given = subst (λ why. IsRefusalOf why ⊥ told) (sym (why-cut some few)) given

-- an input that isn't cut tells how many plans it has
pub plans-told : (input : List ℕ) (found : ℕ) (told : Refusal) → (found ≡ length (candidates_in input)) × ((found ≡ 0) ⊎ (16 < found)) →
    IsRefusalOf (Some (plans_refused found)) ⊥ told → IsRefusalOf (choose_refused input) ⊥ told
plans-told input found told is given =
    let counted : (length (candidates_in input) ≡ 0) ⊎ (16 < length (candidates_in input)) = subst (λ n. (n ≡ 0) ⊎ (16 < n)) is.0 is.1 in
    subst (λ why. IsRefusalOf why ⊥ told) (sym (refused-plans input counted ∙ ap (λ n. Some (plans_refused n)) (sym is.0))) given
