-- How the writing of an answer ends.
use Rattle.std.specs.Prelude.{◌≡◌, ℕ, List, codes}
use Rattle.std.specs.Io.KnownBytes.{Appends}
use Rattle.ctm_ports.specs.Written.{AppendsPrefix}
use Rattle.call_ending.specs.Calls.{SinkUse}
use Rattle.call_ending.specs.Ending.{HasLine}
use Rattle.call_ending.specs.declared.status.Status.{Status}
use Rattle.call_ending.specs.declared.status.Status.TheVariants.{Done, Words, Network, TooLarge, ReadFault, WriteFault, NoMemory, Saved, Plans}

-- all of a text is written, and err is as it was
pub record IsWhole (text : List ℕ) (out err : SinkUse) : Type 0 where
  pub written : Appends out.before out.after text
  pub silent : err.Kept

-- a beginning of a text is written, this is why it ends there, and err has the line that tells it
pub record IsCutShort (Reason : Type 0) (line text : List ℕ) (out err : SinkUse) : Type 0 where
  pub reason : Reason
  pub prefix : AppendsPrefix out.before out.after text
  pub told : HasLine line err

-- that of a text: all of it is written, or out failed, or out had no memory for it; no other status stands for one
abbrev pub IsWritten : (text : List ℕ) → Status → (out err : SinkUse) → Type 0
IsWritten text Done out err = IsWhole text out err
IsWritten text Words out err = ⊥
IsWritten text Network out err = ⊥
IsWritten text TooLarge out err = ⊥
IsWritten text ReadFault out err = ⊥
IsWritten text WriteFault out err = IsCutShort out.Failed (codes "ctm: write fault\n") text out err
IsWritten text NoMemory out err = IsCutShort out.Wanted (codes "ctm: no memory\n") text out err
IsWritten text Saved out err = ⊥
IsWritten text Plans out err = ⊥

-- that of a refusal: err has its line, and out is as it was
pub record IsUnwritten (answered : Status) (line : List ℕ) (status : Status) (out err : SinkUse) : Type 0 where
  pub ends : status ≡ answered
  pub told : HasLine line err
  pub unwritten : out.Kept
