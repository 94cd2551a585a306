-- The options: the word that follows `--` in each.
use Rattle.std.specs.Prelude.{ℕ, List, codes}
use Rattle.command_words.specs.declared.setting.Setting.{Setting}
use Rattle.command_words.specs.declared.setting.Setting.TheVariants.{Regions, Cutting, Parts, Workers, Every, Shots, Until, Size, Seed}

abbrev pub word_of : Setting → List ℕ
word_of Regions = codes "regions"
word_of Cutting = codes "cut"
word_of Parts = codes "parts"
word_of Workers = codes "workers"
word_of Every = codes "every"
word_of Shots = codes "shots"
word_of Until = codes "until"
word_of Size = codes "size"
word_of Seed = codes "seed"
