-- The request of the words, and why there is none.
use Rattle.std.specs.Prelude.{◌≡◌, List, Option, Some, None, String, map, string_bytes, codes}
use Rattle.std.specs.declared.alloc.Global.{Global}
use Rattle.command_words.specs.Words.{request_of}
use Rattle.command_words.specs.declared.request.Request.{Request}
use Rattle.call_ending.specs.Refusing.{IsRefusalOf}
use Rattle.call_ending.specs.Why.{Why}
use Rattle.call_ending.specs.declared.refusal.Refusal.{Refusal}
use Rattle.call_ending.specs.declared.refusal.Refusal.TheVariants.{NoMemory}
use Rattle.call_ending.specs.declared.status.Status.TheVariants as status

abbrev pub requested : List (String Global) → Option Request
requested words = request_of (map string_bytes words)

abbrev pub words_refused : Why
words_refused = record { status = status.Words; line = codes "ctm: words refused\n" }

-- the refusal of a call whose words give this request, or none: the words are refused, or memory was refused
abbrev pub IsOfWords : Option Request → Refusal → Type 0
IsOfWords None refusal = IsRefusalOf (Some words_refused) ⊥ refusal
IsOfWords (Some request) refusal = refusal ≡ NoMemory
