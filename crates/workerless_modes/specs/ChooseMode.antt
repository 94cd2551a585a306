-- The choice among the plans of an input: why there is none, and its text.
use Rattle.std.specs.Prelude.{◌≡◌, ℕ, ◌+◌, ◌&&◌, List, [], ◌∷◌, ◌++◌, Option, Some, None, Result, Ok, Err, codes, decimal, if◌then◌else◌, length, map, nat_le, slice_index}
use Rattle.network_file.specs.Network.{Network}
use Rattle.network_file.specs.Reading.{network_of}
use Rattle.network_file.specs.declared.fault.NetFault.{NetFault}
use Rattle.line_fields.specs.Fields.{amount_field, count_field, lines_of}
use Rattle.plan_choice.specs.Choice.{IsChoice, whole_delay}
use Rattle.plan_choice.specs.Pieces.{candidates_in}
use Rattle.call_ending.specs.Why.{Why}
use Rattle.call_ending.specs.declared.status.Status.TheVariants as status
use Rattle.call_beginning.specs.NetworkInput.{fault_told}

-- an input with so many plans, none or too many
abbrev pub plans_refused : (plans : ℕ) → Why
plans_refused plans = record { status = status.Plans; line = codes "ctm: plans: " ++ decimal plans ++ codes "\n" }

-- the first fault of the candidate of plan p
abbrev pub candidate_refused : (p : ℕ) → NetFault → Why
candidate_refused p fault = record { status = status.Network; line = codes "ctm: network: plan " ++ decimal p ++ codes " " ++ fault_told fault }

-- a candidate's own fault comes before those of later ones
abbrev pub why_of_candidate : (p : ℕ) → Result Network NetFault → (later : Option Why) → Option Why
why_of_candidate p (Ok net) later = later
why_of_candidate p (Err fault) later = Some (candidate_refused p fault)

-- the first fault among candidates that are numbered from p on
abbrev pub why_of_candidates : (p : ℕ) → (files : List (List ℕ)) → Option Why
why_of_candidates p [] = None
why_of_candidates p (file ∷ files) = why_of_candidate p (network_of file) (why_of_candidates (p + 1) files)

abbrev pub choose_refused : (input : List ℕ) → Option Why
choose_refused input =
    let plans = length (candidates_in input) in
    if nat_le 1 plans && nat_le plans 16 then why_of_candidates 0 (candidates_in input) else Some (plans_refused plans)

-- `plan,p,delay`
unfoldable pub plan_line : (p delay : ℕ) → List ℕ
plan_line p delay = codes "plan" ++ count_field p ++ amount_field delay ++ codes "\n"

-- a line for each delay, and then `choice,p`
unfoldable pub choice_text : (delays : List ℕ) → (plan : ℕ) → List ℕ
choice_text delays plan = lines_of (λ p. plan_line p (slice_index delays p)) (length delays) ++ codes "choice" ++ count_field plan ++ codes "\n"

-- the text of the networks that the candidates are: the delay of each by the plain recurrences, and the first plan with the
-- least
pub record IsChosenAmong (nets : List Network) (text : List ℕ) : Type 0 where
  pub plan : ℕ
  pub chosen : IsChoice (map whole_delay nets) plan
  pub text_is : text ≡ choice_text (map whole_delay nets) plan

-- the text of candidates, each of which is a network
pub record IsChosenOf (files : List (List ℕ)) (text : List ℕ) : Type 0 where
  pub nets : List Network
  pub networks : map network_of files ≡ map Ok nets
  pub chosen : IsChosenAmong nets text

abbrev pub IsChooseText : (input : List ℕ) → List ℕ → Type 0
IsChooseText input text = IsChosenOf (candidates_in input) text
