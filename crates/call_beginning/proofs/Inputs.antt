-- Inputs that a source may have, and refusals before a mode looks at one.
use Rattle.std.proofs.Common.{◌≡◌, ℕ, ◌+◌, ◌<◌, Bool, true, false, List, [], Option, Some, None, IfSome, refl, length, replicate, arith, rules}
use Rattle.std.proofs.lemmas.List.{length-replicate}
use Rattle.command_words.specs.declared.mode.Mode.{Mode}
use Rattle.command_words.specs.declared.request.Request.{Request}
use Rattle.ctm_ports.specs.ReadEnd.{LosesAtMost}
use Rattle.net_make.specs.Made.{made}
use Rattle.call_ending.specs.Refusing.{IsRefusalOf}
use Rattle.call_ending.specs.Why.{Why}
use Rattle.call_ending.specs.declared.refusal.Refusal.{Refusal}
use Rattle.call_ending.specs.declared.refusal.Refusal.TheVariants as refusal
use Rattle.call_beginning.specs.Input.{IsInputOf, large_input, most_input, most_read, reads_source, why_long}

pub too_long : (mode : Mode) (input : List ℕ) → most_input mode < length input → why_long mode input ≡ Some large_input
too_long mode input large = search rules

-- a refusal that was possible before a read could fail is possible
pub allowed : (why : Option Why) (ReadFailed : Type 0) (told : Refusal) → IsRefusalOf why ⊥ told → IsRefusalOf why ReadFailed told
allowed why ReadFailed (refusal.Told status line) is = is
allowed why ReadFailed refusal.ReadFault is = absurd is
allowed why ReadFailed refusal.WriteFault is = absurd is
allowed why ReadFailed refusal.NoMemory is = is

-- some input that a source may have
pub some_input : (left : Option (List ℕ)) → (input : List ℕ) × IfSome left (λ bytes. input ≡ bytes)
some_input None = ([], tt)
some_input (Some bytes) = (bytes, refl)

-- one that is longer than a limit, where the source has no less
pub long_input : (most : ℕ) (left : Option (List ℕ)) → IfSome left (λ bytes. most < length bytes) →
    (input : List ℕ) × IfSome left (λ bytes. input ≡ bytes) × (most < length input)
long_input most None none = (replicate (most + 1) 0, tt, omega (arith, length-replicate {A = ℕ}))
long_input most (Some bytes) long = (bytes, refl, long)

-- where a request makes its input, that is its input whatever the source has
pub made_input_is : (request : Request) (left : Option (List ℕ)) → reads_source request.mode ≡ false → IsInputOf (Some request) left (made request.size request.seed)
made_input_is request left makes = rw makes refl

-- and else what the source has
pub read_input_is : (request : Request) (left : Option (List ℕ)) (input : List ℕ) → reads_source request.mode ≡ true → IfSome left (λ bytes. input ≡ bytes) → IsInputOf (Some request) left input
read_input_is request left input reads has = rw reads has

some_input_by : (request : Request) (left : Option (List ℕ)) (reads : Bool) → reads_source request.mode ≡ reads → (input : List ℕ) × IsInputOf (Some request) left input
some_input_by request left true reads = let some = some_input left in (some.0, read_input_is request left some.0 reads some.1)
some_input_by request left false makes = (made request.size request.seed, made_input_is request left makes)

-- some input that a request may have
pub some_input_of : (request : Option Request) (left : Option (List ℕ)) → (input : List ℕ) × IsInputOf request left input
some_input_of None left = some_input left
some_input_of (Some request) left = some_input_by request left (reads_source request.mode) refl

-- a source that isn't read loses nothing
pub loses_nothing : (left : Option (List ℕ)) (most : ℕ) → LosesAtMost left left most
loses_nothing None most = ([], omega arith, tt)
loses_nothing (Some bytes) most = ([], omega arith, refl)

pub most_read-reads : (request : Request) → reads_source request.mode ≡ true → most_read (Some request) ≡ most_input request.mode + 1
most_read-reads request reads = rw reads refl
