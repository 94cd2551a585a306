-- How a call of `ctm_wait` ends.
use Rattle.std.specs.Prelude.{◌≡◌, ℕ, List, Option, IfSome, is_some}
use Rattle.call_ending.specs.Calls.{Call}
use Rattle.call_ending.specs.Ending.{Answer, HasEnded}
use Rattle.call_ending.specs.declared.status.Status.{Status}
use Rattle.network_run.specs.Telling.{Telling}
use Rattle.wait_call.specs.Answer.{answer_by, why_in}
use Rattle.wait_call.specs.Telling.{IsReported}
use Rattle.wait_call.specs.Words.{workers_asked}

-- what answers words that ask for so many workers, or are refused, with this input, where the observer was told what goes with
-- the report
abbrev pub report_for : (held freed : Telling) → (asked : Option ℕ) → (input : List ℕ) → Answer
report_for held freed asked input = record {
  IsText = IsReported held freed (answer_by asked input);
  why = why_in (answer_by asked input);
  is_read = is_some asked;
}

-- a call has an input, which is what the source has left where it tells it, and ends by what answers its words with this input
pub record HasReported (held freed : Telling) (call : Call) (status : Status) : Type 0 where
  pub input : List ℕ
  pub is_input : IfSome call.source.before (λ bytes. input ≡ bytes)
  pub ended : HasEnded (report_for held freed (workers_asked call.words) input) call status
