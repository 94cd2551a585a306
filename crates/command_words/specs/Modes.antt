-- The modes: the word of each, and its options.
use Rattle.std.specs.Prelude.{ℕ, Bool, true, false, List, Option, Some, None, if◌then◌else◌, bytes_eq, codes}
use Rattle.command_words.specs.declared.mode.Mode.{Mode}
use Rattle.command_words.specs.declared.mode.Mode.TheVariants.{Run, Watch, Sample, Save, Resume, Choose, Recut, Cut, Check, Convert}
use Rattle.command_words.specs.declared.setting.Setting.{Setting}
use Rattle.command_words.specs.declared.setting.Setting.TheVariants.{Regions, Cutting, Parts, Workers, Every, Shots, Until, Size, Seed}

-- the mode that a word names
abbrev pub mode_named : List ℕ → Option Mode
mode_named word =
    if bytes_eq word (codes "run") then Some Run
    else if bytes_eq word (codes "watch") then Some Watch
    else if bytes_eq word (codes "sample") then Some Sample
    else if bytes_eq word (codes "save") then Some Save
    else if bytes_eq word (codes "resume") then Some Resume
    else if bytes_eq word (codes "choose") then Some Choose
    else if bytes_eq word (codes "recut") then Some Recut
    else if bytes_eq word (codes "cut") then Some Cut
    else if bytes_eq word (codes "check") then Some Check
    else if bytes_eq word (codes "convert") then Some Convert
    else None

-- whether a mode has an option
abbrev pub takes_option : Mode → Setting → Bool
takes_option Run Regions = true
takes_option Run Workers = true
takes_option Run Every = true
takes_option Run Cutting = true
takes_option Run other = false
takes_option Watch Regions = true
takes_option Watch Workers = true
takes_option Watch Every = true
takes_option Watch Shots = true
takes_option Watch Cutting = true
takes_option Watch other = false
takes_option Sample Regions = true
takes_option Sample Workers = true
takes_option Sample Size = true
takes_option Sample Seed = true
takes_option Sample other = false
takes_option Save Until = true
takes_option Save Regions = true
takes_option Save Workers = true
takes_option Save Cutting = true
takes_option Save other = false
takes_option Resume Workers = true
takes_option Resume other = false
takes_option Choose option = false
takes_option Recut Parts = true
takes_option Recut Regions = true
takes_option Recut Workers = true
takes_option Recut other = false
takes_option Cut Regions = true
takes_option Cut other = false
takes_option Check option = false
takes_option Convert option = false
