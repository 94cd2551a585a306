-- How a call of `ctm` ends.
use Rattle.std.specs.Prelude.{ℕ, List, Option}
use Rattle.command_words.specs.declared.request.Request.{Request}
use Rattle.call_ending.specs.Calls.{Call}
use Rattle.call_ending.specs.Ending.{Answer, HasEnded}
use Rattle.call_ending.specs.declared.status.Status.{Status}
use Rattle.network_run.specs.Telling.{Telling}
use Rattle.network_run.specs.ToldShots.{TellingOfShots, TellingOfWatchers}
use Rattle.ctm_call.specs.Answer.{why_none}
use Rattle.ctm_call.specs.Telling.{IsAnswered}
use Rattle.call_beginning.specs.Input.{IsInputOf, asks_source}
use Rattle.call_beginning.specs.Words.{requested}

-- the answer to the request, or to refused words, with this input; the observer was told what goes with a text
abbrev pub answer_for : (held freed : Telling) (watching : TellingOfWatchers) (watched : TellingOfShots) → Option Request → (input : List ℕ) → Answer
answer_for held freed watching watched asked input = record {
  IsText = IsAnswered held freed watching watched asked input;
  why = why_none asked input;
  is_read = asks_source asked;
}

-- the call ended with this status, by the answer to its words and an input; the input is what the source had left, or the made
-- network, and any where the source doesn't tell its bytes
pub record HasAnswered (held freed : Telling) (watching : TellingOfWatchers) (watched : TellingOfShots) (call : Call) (status : Status) : Type 0 where
  pub input : List ℕ
  pub is_input : IsInputOf (requested call.words) call.source.before input
  pub ended : HasEnded (answer_for held freed watching watched (requested call.words) input) call status
