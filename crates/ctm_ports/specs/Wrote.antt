-- What a write answers.
use Rattle.std.specs.Prelude.{ℕ, ⊤}
use Rattle.ctm_ports.specs.Count.{raised}
use Rattle.ctm_ports.specs.declared.sink.Wrote.{Wrote}
use Rattle.ctm_ports.specs.declared.sink.Wrote.TheVariants.{Took, Failed, NoMemory}

-- a fact of the number of bytes that the sink took, where it took some
abbrev pub IfTook : Wrote → (ℕ → Type 0) → Type 0
IfTook (Took n) P = P n
IfTook Failed P = ⊤
IfTook NoMemory P = ⊤

-- a fact where it took none
abbrev pub UnlessTook : Wrote → Type 0 → Type 0
UnlessTook (Took n) P = ⊤
UnlessTook Failed P = P
UnlessTook NoMemory P = P

-- a fact where the write failed
abbrev pub OnFailed : Wrote → Type 0 → Type 0
OnFailed (Took n) P = ⊤
OnFailed Failed P = P
OnFailed NoMemory P = ⊤

-- a fact where the sink got no memory
abbrev pub OnNoMemory : Wrote → Type 0 → Type 0
OnNoMemory (Took n) P = ⊤
OnNoMemory Failed P = ⊤
OnNoMemory NoMemory P = P

-- how many bytes an answer took
abbrev pub bytes_taken : Wrote → ℕ
bytes_taken (Took n) = n
bytes_taken Failed = 0
bytes_taken NoMemory = 0

-- how often the sink got no memory, after an answer
abbrev pub wants_after : ℕ → Wrote → ℕ
wants_after wants (Took n) = wants
wants_after wants Failed = wants
wants_after wants NoMemory = raised wants

-- the count of faults after an answer
abbrev pub faults_after : ℕ → Wrote → ℕ
faults_after faults (Took n) = faults
faults_after faults Failed = raised faults
faults_after faults NoMemory = faults
