-- What the words on the command line ask for.
use Rattle.std.specs.Prelude.{ℕ, ◌≤◌, List, Option, Some, None, if◌then◌else◌, codes}
use Rattle.std.specs.Option.{option_map_or}
use Rattle.clap.specs.Walk.{first_of, is_empty}
use Rattle.clap.specs.Words.{Row, fault_of, matches_of}
use Rattle.command_words.specs.KnownWords.{command}
use Rattle.command_words.specs.Modes.{mode_named, takes_option}
use Rattle.fixed_flow.specs.Sequence.{◌>>=◌}
use Rattle.command_words.specs.Settings.{word_of}
use Rattle.command_words.specs.Values.{AreRegions, cut_named, number_within, regions_named}
use Rattle.command_words.specs.declared.cut_kind.CutKind.TheVariants.{Even}
use Rattle.command_words.specs.declared.mode.Mode.{Mode}
use Rattle.command_words.specs.declared.region_choice.RegionChoice.TheVariants.{Count}
use Rattle.command_words.specs.declared.request.Request.{Request}
use Rattle.command_words.specs.declared.setting.Setting.{Setting}
use Rattle.command_words.specs.declared.setting.Setting.TheVariants.{Regions, Cutting, Parts, Workers, Every, Shots, Until, Size, Seed}

-- the value of an option, from what `clap` found: what its text stands for, or its default where it isn't given; a mode that hasn't
-- the option refuses it
abbrev pub value_of : {A : Type 0} → Mode → Setting → (named : List ℕ → Option A) → (default : A) → List Row → Option A
value_of mode option named default found =
    option_map_or (λ text. if takes_option mode option then named text else None) (first_of (word_of option) found) (Some default)

-- the request, from what `clap` found: the mode, and of each option which values it takes and its default
unfoldable pub request_in : List Row → Option Request
request_in found = do
  word ← first_of (codes "mode") found
  mode ← mode_named word
  regions ← value_of mode Regions regions_named (Count 1) found
  cut ← value_of mode Cutting cut_named Even found
  parts ← value_of mode Parts (number_within 1 64) 4 found
  workers ← value_of mode Workers (number_within 1 16) 1 found
  every ← value_of mode Every (number_within 0 100_000) 0 found
  shots ← value_of mode Shots (number_within 1 64) 4 found
  until ← value_of mode Until (number_within 0 100_000) 0 found
  size ← value_of mode Size (number_within 1 10_000) 100 found
  seed ← value_of mode Seed (number_within 0 999_999_999) 1 found
  Some (record {
    mode = mode;
    regions = regions;
    cut = cut;
    parts = parts;
    workers = workers;
    every = every;
    shots = shots;
    until = until;
    size = size;
    seed = seed;
  })

-- the request of the words, and none where they are refused
unfoldable pub request_of : List (List ℕ) → Option Request
request_of words = if is_empty (fault_of command words) then request_in (matches_of command words) else None

-- each number is within its option's range
pub record IsInRange (request : Request) : Type 0 where
  pub regions : AreRegions request.regions
  pub parts : (1 ≤ request.parts) × (request.parts ≤ 64)
  pub workers : (1 ≤ request.workers) × (request.workers ≤ 16)
  pub every : request.every ≤ 100_000
  pub shots : (1 ≤ request.shots) × (request.shots ≤ 64)
  pub until : request.until ≤ 100_000
  pub size : (1 ≤ request.size) × (request.size ≤ 10_000)
  pub seed : request.seed ≤ 999_999_999
