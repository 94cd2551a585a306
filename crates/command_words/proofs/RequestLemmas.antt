-- The request, by the faults that `clap` finds.
use Rattle.std.proofs.Common.{◌≡◌, List, ℕ, [], false, refl, None, Result, Ok, Err, Option, Some, IfOk}
use Rattle.std.specs.Result.{result_ok}
use Rattle.clap.specs.Walk.{is_empty}
use Rattle.clap.specs.Words.{Row, fault_of, matches_of}
use Rattle.command_words.specs.KnownWords.{command}
use Rattle.command_words.specs.Words.{request_in, request_of}

-- where there is no fault, the words give what was found
pub request_of-taken : (words : List (List ℕ)) (found : List Row) → fault_of command words ≡ [] → found ≡ matches_of command words → request_of words ≡ request_in found
unfolding request_of
request_of-taken words found none same = rw (none, same) refl

-- and where there is one, no request
pub request_of-faulty : (words : List (List ℕ)) → is_empty (fault_of command words) ≡ false → request_of words ≡ None
unfolding request_of
request_of-faulty words faulty = rw faulty refl

-- a value that is there exactly where the result is Ok
pub IfOk-result_ok : {A E : Type 0} (r : Result A E) (o : Option A) → o ≡ result_ok r → IfOk r (λ x. o ≡ Some x)
IfOk-result_ok (Ok x) o same = same
IfOk-result_ok (Err e) o same = tt
