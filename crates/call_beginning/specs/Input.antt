-- The input of a request: where it comes from, how long it may be, and how much of the source is read.
use Rattle.std.specs.Prelude.{◌≡◌, ℕ, ◌+◌, Bool, true, false, List, Option, Some, None, IfSome, if◌then◌else◌, codes, length, nat_lt}
use Rattle.std.specs.Io.KnownBytes.{IsAtEnd}
use Rattle.command_words.specs.declared.mode.Mode.{Mode}
use Rattle.command_words.specs.declared.mode.Mode.TheVariants.{Run, Watch, Sample, Save, Resume, Choose, Recut, Cut, Check, Convert}
use Rattle.command_words.specs.declared.request.Request.{Request}
use Rattle.net_make.specs.Made.{made}
use Rattle.call_ending.specs.Why.{Why}
use Rattle.call_ending.specs.declared.status.Status.TheVariants as status

-- whether a mode reads the source: each but `sample`, which makes its network itself
abbrev pub reads_source : Mode → Bool
reads_source Run = true
reads_source Watch = true
reads_source Sample = false
reads_source Save = true
reads_source Resume = true
reads_source Choose = true
reads_source Recut = true
reads_source Cut = true
reads_source Check = true
reads_source Convert = true

-- the most bytes that the input of a mode may have
abbrev pub most_input : Mode → ℕ
most_input Run = 16_777_216
most_input Watch = 16_777_216
most_input Sample = 16_777_216
most_input Save = 16_777_216
most_input Resume = 67_108_864
most_input Choose = 16_777_216
most_input Recut = 16_777_216
most_input Cut = 16_777_216
most_input Check = 16_777_216
most_input Convert = 16_777_216

abbrev pub large_input : Why
large_input = record { status = status.TooLarge; line = codes "ctm: too large: input\n" }

-- why an input is refused before its mode looks at it: it is too long
abbrev pub why_long : Mode → (input : List ℕ) → Option Why
why_long mode input = if nat_lt (most_input mode) (length input) then Some large_input else None

-- whether there is a request that reads the source
abbrev pub asks_source : Option Request → Bool
asks_source None = false
asks_source (Some request) = reads_source request.mode

-- the input of a request: of `sample` the made network, else what the source had left, or any where it doesn't tell its bytes
abbrev pub IsInputOf : Option Request → (left : Option (List ℕ)) → (input : List ℕ) → Type 0
IsInputOf None left input = IfSome left (λ bytes. input ≡ bytes)
IsInputOf (Some request) left input =
    IfSome (if reads_source request.mode then left else Some (made request.size request.seed)) (λ bytes. input ≡ bytes)

-- the source is at its end where the request reads it
abbrev pub IsReadWhole : Option Request → (left : Option (List ℕ)) → Type 0
IsReadWhole request left = asks_source request ≡ true → IsAtEnd left

-- the most bytes of the source that are read: one more than the input may have
abbrev pub most_read : Option Request → ℕ
most_read None = 0
most_read (Some request) = if reads_source request.mode then most_input request.mode + 1 else 0
