-- How the writing of a whole text ends.
use Rattle.std.specs.Prelude.{ℕ, List, Option, ◌≤◌, length, take, ⊤}
use Rattle.std.specs.Io.KnownBytes.{Appends}
use Rattle.ctm_ports.specs.declared.writing.Written.{Written}
use Rattle.ctm_ports.specs.declared.writing.Written.TheVariants.{All, Failed, NoMemory}

-- a fact where the sink took the whole text
abbrev pub OnAll : Written → Type 0 → Type 0
OnAll All P = P
OnAll Failed P = ⊤
OnAll NoMemory P = ⊤

-- a fact where a write failed
abbrev pub OnFailed : Written → Type 0 → Type 0
OnFailed All P = ⊤
OnFailed Failed P = P
OnFailed NoMemory P = ⊤

-- a fact where the sink got no memory
abbrev pub OnNoMemory : Written → Type 0 → Type 0
OnNoMemory All P = ⊤
OnNoMemory Failed P = ⊤
OnNoMemory NoMemory P = P

-- bytes taken, where they are told, grow by a prefix of the text
abbrev pub AppendsPrefix : Option (List ℕ) → Option (List ℕ) → List ℕ → Type 0
AppendsPrefix old new text = (n : ℕ) × (n ≤ length text) × Appends old new (take n text)
