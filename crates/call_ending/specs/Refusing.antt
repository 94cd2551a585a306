-- Refusals: their status and their line, and which of them an answer allows.
use Rattle.std.specs.Prelude.{◌≡◌, ℕ, List, Option, Some, ⊤, codes}
use Rattle.call_ending.specs.declared.cause.Cause.{Cause}
use Rattle.call_ending.specs.declared.cause.Cause.TheVariants as cause
use Rattle.call_ending.specs.declared.refusal.Line.{Line}
use Rattle.call_ending.specs.declared.refusal.Line.TheVariants.{Fixed, Made}
use Rattle.call_ending.specs.declared.refusal.Refusal.{Refusal}
use Rattle.call_ending.specs.declared.refusal.Refusal.TheVariants as refusal
use Rattle.call_ending.specs.declared.status.Status.{Status}
use Rattle.call_ending.specs.declared.status.Status.TheVariants as status
use Rattle.call_ending.specs.Why.{Why}

abbrev pub line_bytes : Line → List ℕ
line_bytes (Fixed line) = line.now
line_bytes (Made line) = line.items

abbrev pub cause_status : Cause → Status
cause_status cause.Words = status.Words
cause_status cause.Network = status.Network
cause_status cause.TooLarge = status.TooLarge
cause_status cause.Saved = status.Saved
cause_status cause.Plans = status.Plans

abbrev pub status_of : Refusal → Status
status_of (refusal.Told by line) = cause_status by
status_of refusal.ReadFault = status.ReadFault
status_of refusal.WriteFault = status.WriteFault
status_of refusal.NoMemory = status.NoMemory

abbrev pub line_of : Refusal → List ℕ
line_of (refusal.Told by line) = line_bytes line
line_of refusal.ReadFault = codes "ctm: read fault\n"
line_of refusal.WriteFault = codes "ctm: write fault\n"
line_of refusal.NoMemory = codes "ctm: no memory\n"

-- the refusal is the answer's own, or a read or a request for memory failed on the way to it
abbrev pub IsRefusalOf : Option Why → (ReadFailed : Type 0) → Refusal → Type 0
IsRefusalOf why ReadFailed (refusal.Told by line) = why ≡ Some (record { status = cause_status by; line = line_bytes line })
IsRefusalOf why ReadFailed refusal.ReadFault = ReadFailed
IsRefusalOf why ReadFailed refusal.WriteFault = ⊥
IsRefusalOf why ReadFailed refusal.NoMemory = ⊤
