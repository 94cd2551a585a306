-- Into how many regions a network is cut.
use Rattle.std.specs.Prelude.{ℕ, ◌*◌, ◌/◌, ◌||◌, if◌then◌else◌, min, nat_le, nat_lt}
use Rattle.command_words.specs.declared.region_choice.RegionChoice.{RegionChoice}
use Rattle.command_words.specs.declared.region_choice.RegionChoice.TheVariants.{Auto, Count}
use Rattle.command_words.specs.declared.request.Request.{Request}

-- how many there are: the number that the words give, or one that is chosen. That is one where there is one worker or where there are
-- fewer than 10,000 cells, and else eight for each worker, or fewer, so that a region has 128 cells or more
abbrev pub regions_by : (cells workers : ℕ) → RegionChoice → ℕ
regions_by cells workers Auto = if nat_le workers 1 || nat_lt cells 10_000 then 1 else min (8 * workers) (cells / 128)
regions_by cells workers (Count regions) = regions

-- how many a request wants for a network of so many cells
abbrev pub regions_wanted : (cells : ℕ) → Request → ℕ
regions_wanted cells request = regions_by cells request.workers request.regions
