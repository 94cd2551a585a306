-- How a call ends, status by status.
use Rattle.std.specs.Prelude.{◌≡◌, ℕ, Bool, true, List, Option, Some, ◌⊎◌, codes}
use Rattle.std.specs.Io.KnownBytes.{Appends, IsAtEnd}
use Rattle.ctm_ports.specs.Written.{AppendsPrefix}
use Rattle.call_ending.specs.Calls.{Call, SinkUse}
use Rattle.call_ending.specs.Why.{Why}
use Rattle.call_ending.specs.declared.status.Status.{Status}
use Rattle.call_ending.specs.declared.status.Status.TheVariants.{Done, Words, Network, TooLarge, ReadFault, WriteFault, NoMemory, Saved, Plans}

-- what answers the words of a call and its input: which texts, or why there is none, and whether the source is read for it
pub record Answer : Type 1 where
  pub IsText : List ℕ → Type 0
  pub why : Option Why
  pub is_read : Bool

-- err got the line: a prefix of it at least, and all of it unless one of its counts rose
pub record HasLine (line : List ℕ) (err : SinkUse) : Type 0 where
  pub prefix : AppendsPrefix err.before err.after line
  pub whole : Appends err.before err.after line ⊎ (err.Failed ⊎ err.Wanted)

-- out has a prefix of a text that answers
pub record HasPart (answer : Answer) (out : SinkUse) : Type 0 where
  pub text : List ℕ
  pub answers : answer.IsText text
  pub prefix : AppendsPrefix out.before out.after text

-- the whole text stands on out, a source that is read was read to its end, and err is as it was
pub record IsDone (answer : Answer) (call : Call) : Type 0 where
  pub text : List ℕ
  pub answers : answer.IsText text
  pub written : Appends call.out.before call.out.after text
  pub at_end : answer.is_read ≡ true → IsAtEnd call.source.after
  pub silent : call.err.Kept

-- there is no text, and out is as it was: why, with this status, stands on err
pub record IsRefused (answered : Status) (answer : Answer) (call : Call) : Type 0 where
  pub line : List ℕ
  pub why : answer.why ≡ Some (record { status = answered; line = line })
  pub told : HasLine line call.err
  pub unwritten : call.out.Kept

-- a read of the source failed, and out is as it was
pub record HasReadFault (answer : Answer) (call : Call) : Type 0 where
  pub is_read : answer.is_read ≡ true
  pub failed : call.source.Failed
  pub told : HasLine (codes "ctm: read fault\n") call.err
  pub unwritten : call.out.Kept

-- a write of the text failed
pub record HasWriteFault (answer : Answer) (call : Call) : Type 0 where
  pub failed : call.out.Failed
  pub told : HasLine (codes "ctm: write fault\n") call.err
  pub part : HasPart answer call.out

-- the call tells that memory was refused: out is as it was, or has a prefix of the text and a risen count of its own
pub record HasNoMemory (answer : Answer) (call : Call) : Type 0 where
  pub told : HasLine (codes "ctm: no memory\n") call.err
  pub written : call.out.Kept ⊎ (call.out.Wanted × HasPart answer call.out)

-- a call ended so, with this status
abbrev pub HasEnded : Answer → Call → Status → Type 0
HasEnded answer call Done = IsDone answer call
HasEnded answer call Words = IsRefused Words answer call
HasEnded answer call Network = IsRefused Network answer call
HasEnded answer call TooLarge = IsRefused TooLarge answer call
HasEnded answer call ReadFault = HasReadFault answer call
HasEnded answer call WriteFault = HasWriteFault answer call
HasEnded answer call NoMemory = HasNoMemory answer call
HasEnded answer call Saved = IsRefused Saved answer call
HasEnded answer call Plans = IsRefused Plans answer call
