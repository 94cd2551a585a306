-- The words of the kinds of record are plain.
use Rattle.std.proofs.Common.{arith, refl}
use Rattle.record_fields.specs.declared.record_kind.RecordKind.{RecordKind}
use Rattle.record_fields.specs.declared.record_kind.RecordKind.TheVariants.{Steps, Road, Gate, Exit, Link, Merge, Diverge, Signal, Limit, Demand, Turn, Region, Speed}
use Rattle.record_fields.proofs.KindWords.{word_of}
use Rattle.converted_file.proofs.PlainText.{IsPlain}

-- the word of a kind is plain
pub word_of-plain : (kind : RecordKind) → IsPlain (word_of kind)
word_of-plain Steps = record { some = omega arith; bytes = refl }
word_of-plain Road = record { some = omega arith; bytes = refl }
word_of-plain Gate = record { some = omega arith; bytes = refl }
word_of-plain Exit = record { some = omega arith; bytes = refl }
word_of-plain Link = record { some = omega arith; bytes = refl }
word_of-plain Merge = record { some = omega arith; bytes = refl }
word_of-plain Diverge = record { some = omega arith; bytes = refl }
word_of-plain Signal = record { some = omega arith; bytes = refl }
word_of-plain Limit = record { some = omega arith; bytes = refl }
word_of-plain Demand = record { some = omega arith; bytes = refl }
word_of-plain Turn = record { some = omega arith; bytes = refl }
word_of-plain Region = record { some = omega arith; bytes = refl }
word_of-plain Speed = record { some = omega arith; bytes = refl }
