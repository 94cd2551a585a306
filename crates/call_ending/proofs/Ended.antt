-- A call by its answer: what `end` did with the answer is how the call ended.
use Rattle.std.proofs.Common.{◌≡◌, ℕ, true, List, inl, inr, subst, sym, Some}
use Rattle.std.specs.Io.KnownBytes.{IsAtEnd}
use Rattle.call_ending.specs.Calls.{Call}
use Rattle.call_ending.specs.Ending.{Answer, HasEnded, HasLine}
use Rattle.call_ending.specs.Refusing.{IsRefusalOf, cause_status, line_of, status_of}
use Rattle.call_ending.specs.Writing.{IsUnwritten, IsWritten}
use Rattle.call_ending.specs.declared.cause.Cause.{Cause}
use Rattle.call_ending.specs.declared.cause.Cause.TheVariants as cause
use Rattle.call_ending.specs.declared.refusal.Refusal.{Refusal}
use Rattle.call_ending.specs.declared.refusal.Refusal.TheVariants as refusal
use Rattle.call_ending.specs.declared.status.Status.{Status}
use Rattle.call_ending.specs.declared.status.Status.TheVariants as status

module _ (answer : Answer) (call : Call) where
  -- a text that answers, written
  pub ended-written : (told : Status) (text : List ℕ) → answer.IsText text → (answer.is_read ≡ true → IsAtEnd call.source.after) → IsWritten text told call.out call.err → HasEnded answer call told
  ended-written status.Done text is at_end all = record { text = text; answers = is; written = all.written; at_end = at_end; silent = all.silent }
  ended-written status.Words text is at_end none = absurd none
  ended-written status.Network text is at_end none = absurd none
  ended-written status.TooLarge text is at_end none = absurd none
  ended-written status.ReadFault text is at_end none = absurd none
  ended-written status.WriteFault text is at_end short = record { failed = short.reason; told = short.told; part = record { text = text; answers = is; prefix = short.prefix } }
  ended-written status.NoMemory text is at_end short = record { told = short.told; written = inr (short.reason, record { text = text; answers = is; prefix = short.prefix }) }
  ended-written status.Saved text is at_end none = absurd none
  ended-written status.Plans text is at_end none = absurd none

  -- the answer's own refusal, told
  answered-told : (by : Cause) (line : List ℕ) → answer.why ≡ Some (record { status = cause_status by; line = line }) → HasLine line call.err → call.out.Kept →
      HasEnded answer call (cause_status by)
  answered-told cause.Words line is told kept = record { line = line; why = is; told = told; unwritten = kept }
  answered-told cause.Network line is told kept = record { line = line; why = is; told = told; unwritten = kept }
  answered-told cause.TooLarge line is told kept = record { line = line; why = is; told = told; unwritten = kept }
  answered-told cause.Saved line is told kept = record { line = line; why = is; told = told; unwritten = kept }
  answered-told cause.Plans line is told kept = record { line = line; why = is; told = told; unwritten = kept }

  refusal-told : (refused : Refusal) → IsRefusalOf answer.why ((answer.is_read ≡ true) × call.source.Failed) refused → HasLine (line_of refused) call.err → call.out.Kept →
      HasEnded answer call (status_of refused)
  refusal-told (refusal.Told by line) is told kept = answered-told by _ is told kept
  refusal-told refusal.ReadFault is told kept = record { is_read = is.0; failed = is.1; told = told; unwritten = kept }
  refusal-told refusal.WriteFault is told kept = absurd is
  refusal-told refusal.NoMemory is told kept = record { told = told; written = inl kept }

  -- a refusal that the answer allows, told
  pub ended-unwritten : (told : Status) (refused : Refusal) → IsRefusalOf answer.why ((answer.is_read ≡ true) × call.source.Failed) refused →
      IsUnwritten (status_of refused) (line_of refused) told call.out call.err → HasEnded answer call told
  ended-unwritten told refused is unwritten = subst (λ status. HasEnded answer call status) (sym unwritten.ends) (refusal-told refused is unwritten.told unwritten.unwritten)
