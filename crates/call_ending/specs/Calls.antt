-- What a call did: its words, and its ports before and after it.
use Rattle.std.specs.Prelude.{◌≡◌, ℕ, List, Option, String}
use Rattle.std.specs.declared.alloc.Global.{Global}
use Rattle.ctm_ports.specs.Count.{Rose}

-- a source: the bytes that it had left before a call and has left after it, where it tells them
pub record SourceUse : Type 1 where
  pub before : Option (List ℕ)
  pub after : Option (List ℕ)
  -- its count of failed reads rose
  pub Failed : Type 0

-- a sink: the bytes that it had taken before a call and has taken after it, where it tells them
pub record SinkUse : Type 1 where
  pub before : Option (List ℕ)
  pub after : Option (List ℕ)
  -- it is as it was
  pub Kept : Type 0
  -- its count of failed writes rose
  pub Failed : Type 0
  -- its count of writes that got no memory rose
  pub Wanted : Type 0

-- a call of a program: the words after its name, the input, standard output and standard error
pub record Call : Type 1 where
  pub words : List (String Global)
  pub source : SourceUse
  pub out : SinkUse
  pub err : SinkUse

-- a source by what it tells of itself
abbrev pub source_use : {S : Type 0} (left : S → Option (List ℕ)) (faults : S → ℕ) (old new : S) → SourceUse
source_use left faults old new = record { before = left old; after = left new; Failed = Rose (faults old) (faults new) }

-- a sink by what it tells of itself
abbrev pub sink_use : {O : Type 0} (taken : O → Option (List ℕ)) (faults wants : O → ℕ) (old new : O) → SinkUse
sink_use taken faults wants old new = record {
  before = taken old;
  after = taken new;
  Kept = new ≡ old;
  Failed = Rose (faults old) (faults new);
  Wanted = Rose (wants old) (wants new);
}

abbrev pub call_of : List (String Global) → SourceUse → (out err : SinkUse) → Call
call_of words source out err = record { words = words; source = source; out = out; err = err }
