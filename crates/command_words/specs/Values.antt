-- The values of options: what each text stands for.
use Rattle.std.specs.Prelude.{ℕ, ◌≤◌, ◌&&◌, ⊤, nat_le, List, Option, Some, None, bytes_eq, codes, if◌then◌else◌, option_map}
use Rattle.fixed_flow.specs.Spelling.{whole_of}
use Rattle.fixed_flow.specs.Sequence.{◌>>=◌}
use Rattle.command_words.specs.declared.cut_kind.CutKind.{CutKind}
use Rattle.command_words.specs.declared.cut_kind.CutKind.TheVariants.{Even, Grown}
use Rattle.command_words.specs.declared.region_choice.RegionChoice.{RegionChoice}
use Rattle.command_words.specs.declared.region_choice.RegionChoice.TheVariants.{Auto, Count}

-- the whole number that a text spells, where it is in this range
unfoldable pub number_within : (least most : ℕ) → List ℕ → Option ℕ
number_within least most text = do
  value ← whole_of text
  if nat_le least value && nat_le value most then Some value else None

-- into how many regions: `auto`, or a number from 1 to 512
unfoldable pub regions_named : List ℕ → Option RegionChoice
regions_named text = if bytes_eq text (codes "auto") then Some Auto else option_map Count (number_within 1 512 text)

-- into which: `even` or `grown`
unfoldable pub cut_named : List ℕ → Option CutKind
cut_named text = if bytes_eq text (codes "even") then Some Even else if bytes_eq text (codes "grown") then Some Grown else None

-- a number of regions, where there is one
abbrev pub AreRegions : RegionChoice → Type 0
AreRegions Auto = ⊤
AreRegions (Count regions) = (1 ≤ regions) × (regions ≤ 512)
