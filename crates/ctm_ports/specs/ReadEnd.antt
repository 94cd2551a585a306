-- How the reading of a whole source ends.
use Rattle.std.specs.Prelude.{ℕ, List, Option, ◌≤◌, length, ⊤}
use Rattle.std.specs.Io.KnownBytes.{Consumes}
use Rattle.ctm_ports.specs.declared.reading.ReadEnd.{ReadEnd}
use Rattle.ctm_ports.specs.declared.reading.ReadEnd.TheVariants.{Whole, TooLong, Failed, NoMemory}

-- a fact of all the bytes, where the source came to its end
abbrev pub IfWhole : ReadEnd → (List ℕ → Type 0) → Type 0
IfWhole (Whole bytes) P = P bytes.items
IfWhole TooLong P = ⊤
IfWhole Failed P = ⊤
IfWhole NoMemory P = ⊤

-- a fact where the source had more bytes than the limit
abbrev pub OnTooLong : ReadEnd → Type 0 → Type 0
OnTooLong (Whole bytes) P = ⊤
OnTooLong TooLong P = P
OnTooLong Failed P = ⊤
OnTooLong NoMemory P = ⊤

-- a fact where a read failed
abbrev pub OnFailed : ReadEnd → Type 0 → Type 0
OnFailed (Whole bytes) P = ⊤
OnFailed TooLong P = ⊤
OnFailed Failed P = P
OnFailed NoMemory P = ⊤

-- bytes still to come, where they are told, lose at most so many at their front
abbrev pub LosesAtMost : Option (List ℕ) → Option (List ℕ) → ℕ → Type 0
LosesAtMost old new most = (read : List ℕ) × (length read ≤ most) × Consumes old new read
