-- The refusal for an error of `clap`.
use Rattle.clap.specs.declared.error.kind.ErrorKind.{ErrorKind}
use Rattle.clap.specs.declared.error.kind.ErrorKind.TheVariants.{OutOfMemory}
use Rattle.command_words.specs.declared.refusal.WordsRefusal.{WordsRefusal}
use Rattle.command_words.specs.declared.refusal.WordsRefusal.TheVariants.{Refused, NoMemory}

abbrev pub refusal_of : ErrorKind → WordsRefusal
refusal_of OutOfMemory = NoMemory
refusal_of other = Refused
