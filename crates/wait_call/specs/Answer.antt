-- The answer to the words and the input.
use Rattle.std.specs.Prelude.{◌≡◌, ℕ, ◌+◌, List, Option, Some, None, String, nat_lt, if◌then◌else◌, length, Result, Ok, Err}
use Rattle.std.specs.declared.alloc.Global.{Global}
use Rattle.network_file.specs.Limits.{most_bytes}
use Rattle.network_file.specs.Network.{Network}
use Rattle.network_file.specs.Reading.{network_of}
use Rattle.network_file.specs.declared.fault.NetFault.{NetFault}
use Rattle.delay_report.specs.Report.{report_of}
use Rattle.call_ending.specs.Why.{Why}
use Rattle.call_beginning.specs.Input.{large_input}
use Rattle.call_beginning.specs.NetworkInput.{network_refused}
use Rattle.call_beginning.specs.Words.{words_refused}
use Rattle.wait_call.specs.Words.{workers_asked}

-- the network of a file, whose report is the text on out, or why there is none
abbrev pub answer_of_file : Result Network NetFault → Result Network Why
answer_of_file (Ok net) = Ok net
answer_of_file (Err fault) = Err (network_refused fault)

-- the answer to an input: too long an input is refused first
abbrev pub answer_to : (input : List ℕ) → Result Network Why
answer_to input = if nat_lt most_bytes (length input) then Err large_input else answer_of_file (network_of input)

-- the answer where the words ask for so many workers, or are refused: how many they are changes nothing
abbrev pub answer_by : Option ℕ → (input : List ℕ) → Result Network Why
answer_by None input = Err words_refused
answer_by (Some workers) input = answer_to input

abbrev pub answer_of : (words : List (String Global)) (input : List ℕ) → Result Network Why
answer_of words input = answer_by (workers_asked words) input

-- the text is the report of the plain recurrences, with no recorded steps
abbrev pub IsTextOf : Result Network Why → List ℕ → Type 0
IsTextOf (Ok net) text = text ≡ report_of net 0
IsTextOf (Err why) text = ⊥

-- why there is none
abbrev pub why_in : Result Network Why → Option Why
why_in (Ok net) = None
why_in (Err why) = Some why

-- the most bytes of the source that are read: one more than an input may have
abbrev pub most_bytes_read : Option ℕ → ℕ
most_bytes_read None = 0
most_bytes_read (Some workers) = most_bytes + 1
