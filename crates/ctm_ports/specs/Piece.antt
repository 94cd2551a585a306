-- What a read answers.
use Rattle.std.specs.Prelude.{ℕ, zero, suc, ⊤}
use Rattle.ctm_ports.specs.Count.{raised}
use Rattle.ctm_ports.specs.declared.source.Piece.{Piece}
use Rattle.ctm_ports.specs.declared.source.Piece.TheVariants.{Got, End, Failed}

-- a fact of the number of bytes that came, where some came
abbrev pub IfGot : Piece → (ℕ → Type 0) → Type 0
IfGot (Got n) P = P n
IfGot End P = ⊤
IfGot Failed P = ⊤

-- a fact where none came
abbrev pub UnlessGot : Piece → Type 0 → Type 0
UnlessGot (Got n) P = ⊤
UnlessGot End P = P
UnlessGot Failed P = P

-- a fact where the source is at its end
abbrev pub OnEnd : Piece → Type 0 → Type 0
OnEnd (Got n) P = ⊤
OnEnd End P = P
OnEnd Failed P = ⊤

-- a fact where the read failed
abbrev pub OnFailed : Piece → Type 0 → Type 0
OnFailed (Got n) P = ⊤
OnFailed End P = ⊤
OnFailed Failed P = P

-- the answer that gives so many bytes: none are given at the end alone
abbrev pub piece_of : ℕ → Piece
piece_of zero = End
piece_of (suc n) = Got (suc n)

-- how many bytes an answer gives
abbrev pub bytes_given : Piece → ℕ
bytes_given (Got n) = n
bytes_given End = 0
bytes_given Failed = 0

-- the count of faults after an answer
abbrev pub faults_after : ℕ → Piece → ℕ
faults_after faults (Got n) = faults
faults_after faults End = faults
faults_after faults Failed = raised faults
