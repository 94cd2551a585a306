-- A run: why it has no text, and which text it has.
use Rattle.std.specs.Prelude.{◌≡◌, ℕ, List, Option, IsOkAnd}
use Rattle.network_file.specs.Network.{Network}
use Rattle.network_file.specs.Reading.{network_of}
use Rattle.delay_report.specs.Report.{report_of}
use Rattle.call_ending.specs.Why.{Why}
use Rattle.call_beginning.specs.NetworkInput.{why_of_network}
use Rattle.call_beginning.specs.Recording.{why_unrecorded}
use Rattle.call_beginning.specs.Task.{Task}
use Rattle.run_modes.specs.Daganzo.{HasNoSpeeds, daganzo_report}

abbrev pub run_refused : Task → Option Why
run_refused task = why_of_network (network_of task.input) (λ net. why_unrecorded net task.request.every)

-- the text is the report by the recurrences with speeds; where the file has no speed record it is also that by Daganzo's own
pub record IsReport (net : Network) (every : ℕ) (text : List ℕ) : Type 0 where
  pub daganzo : HasNoSpeeds net → text ≡ daganzo_report net every
  pub extended : text ≡ report_of net every

abbrev pub IsRunText : Task → List ℕ → Type 0
IsRunText task text = IsOkAnd (network_of task.input) (λ net. IsReport net task.request.every text)
