-- What an error of `clap` says of the words.
use Rattle.std.proofs.Common.{◌≡◌, ◌∙◌, ap, sym, ⊎_elim, [], ◌∷◌, false, arith}
use Rattle.std.proofs.lemmas.Bool.Decides.{nat_tests}
use Rattle.clap.specs.Walk.{is_empty}
use Rattle.clap.specs.Words.{HasKind, Kinds, kind_of}
use Rattle.clap.specs.declared.error.Error.{Error}
use Rattle.clap.specs.declared.error.kind.ErrorKind.TheVariants.{OutOfMemory}
use Rattle.command_words.specs.Refusing.{refusal_of}
use Rattle.command_words.specs.declared.refusal.WordsRefusal.TheVariants.{NoMemory, Refused}

memory-or_refused : (e : Error) → kind_of e ≡ OutOfMemory → refusal_of (kind_of e) ≡ Refused → ⊥
memory-or_refused e memory refused = let both : NoMemory ≡ Refused = sym (ap refusal_of memory) ∙ refused in cc

-- a refusal comes only where there is a fault
pub is_empty-refused : (kinds : Kinds) (e : Error) → HasKind kinds e → refusal_of (kind_of e) ≡ Refused → is_empty kinds ≡ false
is_empty-refused [] e had refused = ⊎_elim (λ memory. absurd (memory-or_refused e memory refused)) (λ none. absurd none) had
is_empty-refused (kind ∷ more) e had refused = grind (arith, nat_tests)
