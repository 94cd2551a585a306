-- A run in parts, each in another cutting: why it has no text, and which text it has.
use Rattle.std.specs.Prelude.{◌≡◌, ℕ, List, Option, None, IsOkAnd}
use Rattle.network_file.specs.Reading.{network_of}
use Rattle.delay_report.specs.Report.{report_of}
use Rattle.call_ending.specs.Why.{Why}
use Rattle.call_beginning.specs.NetworkInput.{why_of_network}
use Rattle.call_beginning.specs.Task.{Task}

abbrev pub recut_refused : Task → Option Why
recut_refused task = why_of_network (network_of task.input) (λ net. None)

-- the report of the plain recurrences, whatever the parts and the cuttings
abbrev pub IsRecutText : Task → List ℕ → Type 0
IsRecutText task text = IsOkAnd (network_of task.input) (λ net. text ≡ report_of net 0)
