-- The command that `clap` reads the words as.
use Rattle.std.specs.Prelude.{[], ◌∷◌, Some, true, codes, fold, map}
use Rattle.clap.specs.Words.{App, Rule, new_app, new_rule, with_rule}
use Rattle.clap.specs.Simple.{on_top}
use Rattle.command_words.specs.Settings.{word_of}
use Rattle.command_words.specs.declared.setting.Setting.{Setting}
use Rattle.command_words.specs.declared.setting.Setting.TheVariants.{Regions, Cutting, Parts, Workers, Every, Shots, Until, Size, Seed}

-- an option is known by `--` and its word, has no short form, and takes one value
abbrev pub option_rule : Setting → Rule
option_rule option = record (new_rule (word_of option)) { long = Some (word_of option) }

-- the command line of `ctm`: every option, in every mode, and the mode, which stands alone and must be there; the words have no
-- program's name before them
unfoldable pub command : App
command =
    let bare = on_top (λ shape. record shape { no_binary_name = true }) (new_app (codes "ctm")) in
    let options = Regions ∷ Cutting ∷ Parts ∷ Workers ∷ Every ∷ Shots ∷ Until ∷ Size ∷ Seed ∷ [] in
    with_rule (fold with_rule bare (map option_rule options)) (record (new_rule (codes "mode")) { required = true })
