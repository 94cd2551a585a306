-- What the words ask for.
use Rattle.std.specs.Prelude.{ℕ, List, [], ◌∷◌, Option, None, String, string_bytes}
use Rattle.std.specs.declared.alloc.Global.{Global}
use Rattle.command_words.specs.Values.{number_within}

-- how many workers: the words are one whole number from 1 to 16, and are refused otherwise
abbrev pub workers_asked : List (String Global) → Option ℕ
workers_asked [] = None
workers_asked (word ∷ []) = number_within 1 16 (string_bytes word)
workers_asked (word ∷ other ∷ words) = None
